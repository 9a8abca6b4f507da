use Rattle.run_journal.proofs.Agreeing.{agree_unheard}
use Rattle.run_journal.proofs.laws.agreement.quiet_entries_agree.Goals as goal

pub returns : goal.returns
returns c = agree_unheard
