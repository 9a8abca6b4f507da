use Rattle.run_rules.proofs.Standing.{due_same}
use Rattle.run_rules.proofs.laws.looks.deadlines_agree.Goals as goal

pub returns : goal.returns
returns c = due_same
