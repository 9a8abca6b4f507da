use Rattle.world.specs.Disk.{place}
use Rattle.world.proofs.SaveLemmas.{stays_under_sync, settled_alone}
use Rattle.world.proofs.laws.settled_places_stay.Goals as goal

pub returns : goal.returns
returns c = λ dir path d past it one named. stays_under_sync dir path d past (settled_alone (place past path) it one named)
