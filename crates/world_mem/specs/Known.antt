-- Paths with what is known of each, in the order of their bytes; a path that isn't there is as before the run.
use Rattle.std.specs.Prelude.{◌≡◌, ◌&&◌, ℕ, List, [], ◌∷◌, Bool, true, if◌then◌else◌}
use Rattle.std.specs.Cmp.Lexicographic.{slice_cmp}
use Rattle.std.specs.Ordering.{nat_cmp, is_lt}
use Rattle.std.specs.Str.{bytes_eq}
use Rattle.std.specs.declared.cmp.Ordering.{Ordering}
use Rattle.std.specs.declared.cmp.Ordering.TheVariants.{Less, Equal, Greater}
use Rattle.world.specs.declared.did.Did.{Did}
use Rattle.world.specs.declared.entry.Entry.{Entry}
use Rattle.world.specs.Disk.{Place, untouched_place, place_in_synced_dir, folder_of, place, place_after}
use Rattle.world_mem.specs.Folder.{Content, has_file}
use Rattle.jtext.specs.Texts.{is_among}

-- paths with what is known of them
abbrev pub Known : Type 0
Known = List (List ℕ × Place)

-- what is known of a path
abbrev pub place_in : Known → List ℕ → Place
place_in [] path = untouched_place
place_in (item ∷ items) path = if bytes_eq item.0 path then item.1 else place_in items path

-- the paths alone
abbrev pub paths_of : Known → List (List ℕ)
paths_of [] = []
paths_of (item ∷ items) = item.0 ∷ paths_of items

-- a path comes before the first of these, by its bytes
abbrev pub is_below : List ℕ → List (List ℕ) → Bool
is_below path [] = true
is_below path (other ∷ paths) = is_lt (slice_cmp nat_cmp path other)

-- each path comes before the next, by its bytes
abbrev pub are_ascending : List (List ℕ) → Bool
are_ascending [] = true
are_ascending (path ∷ paths) = is_below path paths && are_ascending paths

-- a path with what is known of it, put beside the first of the others, by how it compares to that one
abbrev pub put_by : Ordering → List ℕ → Place → List ℕ × Place → Known → Known → Known
put_by Less path place item items more = (path, place) ∷ item ∷ items
put_by Equal path place item items more = (item.0, place) ∷ items
put_by Greater path place item items more = item ∷ more

-- a path with what is known of it, in its place among the others or instead of what was known of it
abbrev pub put_in : List ℕ → Place → Known → Known
put_in path place [] = (path, place) ∷ []
put_in path place (item ∷ items) =
    put_by (slice_cmp nat_cmp path item.0) path place item items (put_in path place items)

-- what a sync of a folder makes of a path
abbrev pub settled_in : List ℕ → Did → List ℕ × Place → List ℕ × Place
settled_in dir did item =
    (item.0, if bytes_eq dir (folder_of item.0) then place_in_synced_dir item.1 did else item.1)

-- what is known after one more entry
pub record Learns (entry : Entry) (old new : Known) : Type 0 where
  pub places : (path : List ℕ) → place_in new path ≡ place_after entry (place_in old) path
  pub order : are_ascending (paths_of old) ≡ true → are_ascending (paths_of new) ≡ true
  pub kept : (path : List ℕ) → is_among path (paths_of old) ≡ true → is_among path (paths_of new) ≡ true

-- what is known after these entries, the newest first, of all that they name and of these files
pub record StandsFor (start : Content) (past : List Entry) (known : Known) : Type 0 where
  pub places : (path : List ℕ) → place_in known path ≡ place past path
  pub order : are_ascending (paths_of known) ≡ true
  pub all : (path : List ℕ) → has_file path start ≡ true → is_among path (paths_of known) ≡ true
