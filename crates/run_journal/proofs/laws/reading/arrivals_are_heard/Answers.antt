use Rattle.run_journal.proofs.Reading.{heard_more}
use Rattle.run_journal.proofs.laws.reading.arrivals_are_heard.Goals as goal

pub returns : goal.returns
returns c = heard_more
