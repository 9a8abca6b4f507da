use Rattle.world.specs.Disk.{place}
use Rattle.world.proofs.TouchedLemmas.{after_spared}
use Rattle.world.proofs.laws.spared_paths_stay.Goals as goal

pub returns : goal.returns
returns c = λ path entry past spared unsettled. after_spared path entry (place past) spared unsettled
