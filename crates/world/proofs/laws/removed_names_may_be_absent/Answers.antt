use Rattle.std.proofs.Common.{ap}
use Rattle.world.specs.declared.did.Did.TheVariants.{Done, Failed}
use Rattle.world.specs.Disk.{Place}
use Rattle.world.proofs.PlaceLemmas.{removed_own}
use Rattle.world.proofs.SaveLemmas.{removed_options}
use Rattle.world.proofs.laws.removed_names_may_be_absent.Goals as goal

pub returns-clause-options : goal.returns-clause-options
returns-clause-options c = λ path d past. removed_options path d past

pub returns-clause-gone : goal.returns-clause-gone
returns-clause-gone c = λ path past. ap (λ p. Place.here p) (removed_own path Done past)

pub returns-clause-unsure : goal.returns-clause-unsure
returns-clause-unsure c = λ path past. ap (λ p. Place.here p) (removed_own path Failed past)
