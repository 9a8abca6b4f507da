use Rattle.ready_loop.proofs.RunLemmas.{others_stand}
use Rattle.ready_loop.proofs.laws.other_calls_change_nothing.Goals as goal

pub returns : goal.returns
returns c = others_stand
