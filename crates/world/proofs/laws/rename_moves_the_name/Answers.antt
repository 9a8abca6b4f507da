use Rattle.std.proofs.Common.{ap}
use Rattle.world.specs.declared.did.Did.TheVariants.{Done}
use Rattle.world.specs.Disk.{Place}
use Rattle.world.proofs.PlaceLemmas.{renamed_to_own, renamed_from_own}
use Rattle.world.proofs.laws.rename_moves_the_name.Goals as goal

pub returns : goal.returns
returns c = λ from to past differ. (
  ap (λ p. Place.here p) (renamed_to_own from to Done past),
  ap (λ p. Place.here p) (renamed_from_own from to Done past differ),
)
