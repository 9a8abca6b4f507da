use Rattle.run_journal.proofs.Stopping.{undated_same}
use Rattle.run_journal.proofs.laws.causes.undated_causes_agree.Goals as goal

pub returns : goal.returns
returns c = undated_same
