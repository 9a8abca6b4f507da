use Rattle.world.proofs.TouchedLemmas.{untouched_since}
use Rattle.world.proofs.laws.untouched_paths_stay.Goals as goal

pub returns : goal.returns
returns c = λ path before after since is. untouched_since since is
