use Rattle.run_journal.proofs.Agreeing.{agree_saved}
use Rattle.run_journal.proofs.laws.agreement.acknowledgements_agree.Goals as goal

pub returns : goal.returns
returns c = agree_saved
