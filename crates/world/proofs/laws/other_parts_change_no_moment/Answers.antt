use Rattle.world.proofs.PartsLemmas.{time_kept}
use Rattle.world.proofs.laws.other_parts_change_no_moment.Goals as goal

pub returns : goal.returns
returns c = λ before after since. time_kept since
