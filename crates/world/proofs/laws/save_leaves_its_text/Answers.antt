use Rattle.world.proofs.SaveLemmas.{save_leaves}
use Rattle.world.proofs.laws.save_leaves_its_text.Goals as goal

pub returns : goal.returns
returns c = λ from to text before after differ s. save_leaves from to text before after differ s
