use Rattle.world.specs.Disk.{place}
use Rattle.world.proofs.SaveLemmas.{stays_under_sync, settled_open}
use Rattle.world.proofs.laws.unsettled_places_stay.Goals as goal

pub returns : goal.returns
returns c = λ dir path d past is. stays_under_sync dir path d past (settled_open (place past path) is)
