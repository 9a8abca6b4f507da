use Rattle.world.proofs.PartsLemmas.{acked_kept}
use Rattle.world.proofs.laws.other_parts_acknowledge_nothing.Goals as goal

pub returns : goal.returns
returns c = λ from to before after since. acked_kept from to since
