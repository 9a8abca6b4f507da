use Rattle.run_journal.proofs.Agreeing.{agree_first}
use Rattle.run_journal.proofs.laws.agreement.agree_at_first.Goals as goal

pub returns : goal.returns
returns c = agree_first
