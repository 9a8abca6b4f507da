use Rattle.run_journal.proofs.KeptTime.{time_settled}
use Rattle.run_journal.proofs.laws.rules.time_is_told.Goals as goal

pub returns : goal.returns
returns c jobs j past dec plan limits = time_settled jobs j dec plan limits past
