use Rattle.run_journal.proofs.Asking.{saves_agree}
use Rattle.run_journal.proofs.laws.agreement.saves_agree.Goals as goal

pub returns : goal.returns
returns c = saves_agree
