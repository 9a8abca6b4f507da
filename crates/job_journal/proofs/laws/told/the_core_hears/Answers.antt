use Rattle.job_journal.proofs.Steps.{hears_next}
use Rattle.job_journal.proofs.laws.told.the_core_hears.Goals as goal

pub returns : goal.returns
returns c = hears_next
