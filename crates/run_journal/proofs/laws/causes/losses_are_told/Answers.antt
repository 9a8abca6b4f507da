use Rattle.run_journal.proofs.Telling.{lost_told}
use Rattle.run_journal.proofs.laws.causes.losses_are_told.Goals as goal

pub returns : goal.returns
returns c = lost_told
