use Rattle.world.proofs.SaveLemmas.{target_options}
use Rattle.world.proofs.laws.rename_keeps_the_options.Goals as goal

pub returns : goal.returns
returns c = λ from to d past. target_options from to d past
