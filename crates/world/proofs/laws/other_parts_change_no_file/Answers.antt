use Rattle.world.proofs.PartsLemmas.{place_kept}
use Rattle.world.proofs.laws.other_parts_change_no_file.Goals as goal

pub returns : goal.returns
returns c = λ before after since. place_kept since
