use Rattle.batch_run.proofs.LineLemmas.{none_of}
use Rattle.batch_run.proofs.lines.no_places.Goals as goal

pub returns-clause-none : goal.returns-clause-none
returns-clause-none c = record { each = λ p low. none_of 64 p low }
