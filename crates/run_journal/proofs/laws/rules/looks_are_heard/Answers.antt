use Rattle.run_journal.proofs.Settling.{hears_settled}
use Rattle.run_journal.proofs.laws.rules.looks_are_heard.Goals as goal

pub returns : goal.returns
returns c jobs j past dec plan limits = hears_settled jobs j dec plan limits past
