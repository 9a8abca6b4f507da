use Rattle.std.proofs.Common.{◌≡◌, ◌++◌, drop, reverse}
use Rattle.world_mem.specs.Image.{pick_files}
use Rattle.world_mem.specs.Known.{paths_of}
use Rattle.world_mem.proofs.image.image.Given as goal

-- what is left of the paths comes behind
abbrev pub invariant-loop-path : goal.invariant-loop-path
invariant-loop-path l =
    pick_files l.start.files.items (reverse l.entries) (paths_of l.path-items) l.choice
    ≡ l.files ++ pick_files l.start.files.items (reverse l.entries) (paths_of (drop l.path-index l.path-items)) l.rest
