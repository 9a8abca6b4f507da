use Rattle.run_journal.proofs.Clocks.{clocks_agree}
use Rattle.run_journal.proofs.laws.agreement.clocks_agree.Goals as goal

pub returns : goal.returns
returns c = clocks_agree
