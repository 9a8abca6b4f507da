use Rattle.run_journal.proofs.Timing.{time_is_kept}
use Rattle.run_journal.proofs.laws.rules.time_is_kept.Goals as goal

pub returns : goal.returns
returns c = time_is_kept
