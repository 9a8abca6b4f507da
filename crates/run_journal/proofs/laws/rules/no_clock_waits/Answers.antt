use Rattle.run_journal.proofs.Unheld.{all_timely}
use Rattle.run_journal.proofs.laws.rules.no_clock_waits.Goals as goal

pub returns : goal.returns
returns c jobs j past dec plan limits runs k h u f = (all_timely jobs j dec plan limits past runs k h u f).1
