use Rattle.run_journal.proofs.Positions.{literal}
use Rattle.run_journal.proofs.laws.order.requests_by_positions.Goals as goal

pub returns : goal.returns
returns c = literal
