use Rattle.std.proofs.Common.{◌∙◌, ap}
use Rattle.world.specs.declared.did.Did.TheVariants.{Done}
use Rattle.world.specs.Disk.{Place, place, settled_place}
use Rattle.world.proofs.PlaceLemmas.{dir_synced_own}
use Rattle.world.proofs.laws.folder_syncs_settle.Goals as goal

pub returns : goal.returns
returns c = λ path text past named.
    ap (λ p. Place.options p) (dir_synced_own path Done past ∙ ap (settled_place (place past path)) named)
