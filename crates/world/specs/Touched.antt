-- Which entries change what a crash may leave of a path.
use Rattle.std.specs.Prelude.{◌≡◌, ℕ, ◌||◌, List, [], ◌∷◌, Bool, false}
use Rattle.std.specs.Str.{bytes_eq}
use Rattle.world.specs.declared.entry.Entry.{Entry}
use Rattle.world.specs.declared.entry.Entry.TheVariants as made
use Rattle.world.specs.Disk.{folder_of}

-- an entry creates, writes, syncs, renames or removes the path
abbrev pub touches : List ℕ → Entry → Bool
touches path (made.Created p d) = bytes_eq p path
touches path (made.Wrote p bytes d) = bytes_eq p path
touches path (made.Synced p d) = bytes_eq p path
touches path (made.Renamed from to d) = bytes_eq to path || bytes_eq from path
touches path (made.Removed p d) = bytes_eq p path
touches path _ = false

-- an entry syncs the folder of the path
abbrev pub settles : List ℕ → Entry → Bool
settles path (made.DirSynced dir d) = bytes_eq dir (folder_of path)
settles path _ = false

-- the newest entry doesn't touch the path
abbrev pub Spares : List ℕ → List Entry → Type 0
Spares path [] = ⊥
Spares path (entry ∷ past) = touches path entry ≡ false
