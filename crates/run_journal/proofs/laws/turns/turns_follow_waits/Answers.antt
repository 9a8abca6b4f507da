use Rattle.run_journal.proofs.Turns.{turn_is}
use Rattle.run_journal.proofs.laws.turns.turns_follow_waits.Goals as goal

pub returns : goal.returns
returns c = turn_is
