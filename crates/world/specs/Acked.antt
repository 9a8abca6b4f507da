-- Acknowledged saves, by the journal, its newest entry first: a done sync of the folder directly after the done rename.
use Rattle.std.specs.Prelude.{ℕ, ◌+◌, ◌&&◌, List, [], ◌∷◌, Bool, false, if◌then◌else◌}
use Rattle.std.specs.Str.{bytes_eq}
use Rattle.world.specs.declared.entry.Entry.{Entry}
use Rattle.world.specs.declared.entry.Entry.TheVariants as made
use Rattle.world.specs.declared.did.Did.TheVariants as did
use Rattle.world.specs.Disk.{folder_of}

-- an entry is the done rename from one path to the other
abbrev pub renames : List ℕ → List ℕ → Entry → Bool
renames from to (made.Renamed a b did.Done) = bytes_eq from a && bytes_eq to b
renames from to _ = false

-- an entry is a done sync of the path's folder
abbrev pub syncs_folder : List ℕ → Entry → Bool
syncs_folder path (made.DirSynced dir did.Done) = bytes_eq (folder_of path) dir
syncs_folder path _ = false

-- the newest entry is that rename
abbrev pub is_renamed : List ℕ → List ℕ → List Entry → Bool
is_renamed from to [] = false
is_renamed from to (entry ∷ past) = renames from to entry

-- the newest entry is an acknowledging sync
abbrev pub is_acknowledging : List ℕ → List ℕ → List Entry → Bool
is_acknowledging from to [] = false
is_acknowledging from to (entry ∷ past) = syncs_folder to entry && is_renamed from to past

-- how many saves of the path by a rename from the other were acknowledged
abbrev pub ack_count : List ℕ → List ℕ → List Entry → ℕ
ack_count from to [] = 0
ack_count from to (entry ∷ past) =
    if is_acknowledging from to (entry ∷ past) then ack_count from to past + 1 else ack_count from to past
