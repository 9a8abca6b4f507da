use Rattle.run_journal.proofs.Hearing.{agree_came}
use Rattle.run_journal.proofs.laws.agreement.messages_agree.Goals as goal

pub returns : goal.returns
returns c = agree_came
