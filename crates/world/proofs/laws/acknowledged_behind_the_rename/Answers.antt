use Rattle.world.proofs.SaveLemmas.{acked_behind}
use Rattle.world.proofs.laws.acknowledged_behind_the_rename.Goals as goal

pub returns : goal.returns
returns c = λ from to entry past e. acked_behind from to entry past e
