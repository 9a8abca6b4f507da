use Rattle.run_journal.proofs.Telling.{at_once_same}
use Rattle.run_journal.proofs.laws.causes.causes_at_once_agree.Goals as goal

pub returns : goal.returns
returns c = at_once_same
