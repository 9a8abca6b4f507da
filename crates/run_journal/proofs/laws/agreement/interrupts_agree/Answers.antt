use Rattle.run_journal.proofs.Settling.{interrupts_settled}
use Rattle.run_journal.proofs.laws.agreement.interrupts_agree.Goals as goal

pub returns : goal.returns
returns c = interrupts_settled
