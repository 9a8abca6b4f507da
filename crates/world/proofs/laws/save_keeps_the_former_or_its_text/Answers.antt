use Rattle.world.proofs.SaveLemmas.{save_moments}
use Rattle.world.proofs.laws.save_keeps_the_former_or_its_text.Goals as goal

pub returns : goal.returns
returns c = λ from to text before after differ s. save_moments from to text before after differ s
