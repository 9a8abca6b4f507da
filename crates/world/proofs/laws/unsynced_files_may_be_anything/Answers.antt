use Rattle.world.proofs.SaveLemmas.{created_options}
use Rattle.std.proofs.Common.{ap}
use Rattle.world.specs.Disk.{Place}
use Rattle.world.proofs.PlaceLemmas.{wrote_own}
use Rattle.world.proofs.laws.unsynced_files_may_be_anything.Goals as goal

pub returns-clause-create : goal.returns-clause-create
returns-clause-create c = λ path d past. created_options path d past

pub returns-clause-write : goal.returns-clause-write
returns-clause-write c = λ path bytes d past. ap (λ p. Place.options p) (wrote_own path bytes d past)
