use Rattle.run_journal.proofs.Agreeing.{agree_other}
use Rattle.run_journal.proofs.laws.agreement.other_events_agree.Goals as goal

pub returns : goal.returns
returns c = agree_other
