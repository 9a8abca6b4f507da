use Rattle.run_journal.proofs.Settling.{why_settled}
use Rattle.run_journal.proofs.laws.causes.causes_agree.Goals as goal

pub returns : goal.returns
returns c = why_settled
