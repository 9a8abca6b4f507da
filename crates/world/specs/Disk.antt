-- What a crash may leave of each file (POSIX.1: write, fsync, rename, unlink), by the journal, its newest entry first.
use Rattle.std.specs.Prelude.{◌≡◌, ◌⊎◌, ◌==◌, ℕ, ◌++◌, List, [], ◌∷◌, Option, Some, None, Bool, if◌then◌else◌}
use Rattle.std.specs.List.{before_last, list_any}
use Rattle.std.specs.Str.{bytes_eq}
use Rattle.world.specs.declared.entry.Entry.{Entry}
use Rattle.world.specs.declared.entry.Entry.TheVariants.{Created, Wrote, Synced, Renamed, DirSynced, Removed}
use Rattle.world.specs.declared.left.Left.{Left}
use Rattle.world.specs.declared.left.Left.TheVariants as left
use Rattle.world.specs.declared.did.Did.{Did}
use Rattle.world.specs.declared.did.Did.TheVariants.{Done, Failed}

-- what is known of a path
pub record Place : Type 0 where
  pub options : List Left  -- what a crash may leave
  pub here : Option Left  -- what the path names now; `None`: unsure
  pub fresh : Option (List ℕ)  -- the bytes since a done create, where each write since was done

-- the byte between the parts of a path (POSIX.1, pathname)
abbrev pub is_slash : ℕ → Bool
is_slash c = c == 47

-- what a path has before its last slash, and `/` where that is nothing
abbrev pub before_slash : List ℕ → List ℕ
before_slash path = if bytes_eq (before_last is_slash path) [] then 47 ∷ [] else before_last is_slash path

-- the folder of a path: what it has before its last slash, and `.` where there is no slash
abbrev pub folder_of : List ℕ → List ℕ
folder_of path = if list_any is_slash path then before_slash path else 46 ∷ []

-- a path before the run
abbrev pub untouched_place : Place
untouched_place = record { options = left.Old ∷ []; here = Some left.Old; fresh = None }

-- a file that may be anything until a sync, with what is known of its bytes
abbrev pub unsynced_place : Option (List ℕ) → Place
unsynced_place known = record { options = left.Any ∷ []; here = Some left.Any; fresh = known }

-- a file that was created
abbrev pub created_place : Did → Place
created_place Done = unsynced_place (Some [])
created_place Failed = unsynced_place None

-- the bytes since the create, where all of them are known
abbrev pub fresh_bytes : Option (List ℕ) → List ℕ → Did → Option (List ℕ)
fresh_bytes (Some bytes) piece Done = Some (bytes ++ piece)
fresh_bytes (Some bytes) piece Failed = None
fresh_bytes None piece did = None

-- a file that was written to
abbrev pub written_place : Place → List ℕ → Did → Place
written_place p piece did = unsynced_place (fresh_bytes p.fresh piece did)

-- a file that holds just these bytes, where they are known
abbrev pub whole_place : Place → Option (List ℕ) → Place
whole_place p (Some bytes) = record {
  options = left.Whole bytes ∷ [];
  here = Some (left.Whole bytes);
  fresh = Some bytes;
}
whole_place p None = p

-- a file that was synced
abbrev pub synced_place : Place → Did → Place
synced_place p Done = whole_place p p.fresh
synced_place p Failed = p

-- the new name of a rename: it keeps its options and gains those of the old one
abbrev pub target_place : Place → Place → Did → Place
target_place from to Done = record { options = to.options ++ from.options; here = from.here; fresh = None }
target_place from to Failed = record { options = to.options ++ from.options; here = None; fresh = None }

-- a name that was taken away, by a rename or a remove: it may be absent
abbrev pub removed_place : Place → Did → Place
removed_place p Done = record { options = p.options ++ left.Absent ∷ []; here = Some left.Absent; fresh = None }
removed_place p Failed = record { options = p.options ++ left.Absent ∷ []; here = None; fresh = None }

-- a synced folder leaves a name what the done calls gave it, where that is known
abbrev pub settled_place : Place → Option Left → Place
settled_place p (Some left.Old) = record p { options = left.Old ∷ [] }
settled_place p (Some (left.Whole bytes)) = record p { options = left.Whole bytes ∷ [] }
settled_place p (Some left.Absent) = p
settled_place p (Some left.Any) = p
settled_place p None = p

-- a name in a folder that was synced
abbrev pub place_in_synced_dir : Place → Did → Place
place_in_synced_dir p Done = settled_place p p.here
place_in_synced_dir p Failed = p

-- what a rename makes of every path
abbrev pub place_after_rename : List ℕ → List ℕ → Did → (List ℕ → Place) → List ℕ → Place
place_after_rename from to did was q =
    if bytes_eq to q then target_place (was from) (was to) did
    else (if bytes_eq from q then removed_place (was from) did else was q)

-- what an entry makes of every path
abbrev pub place_after : Entry → (List ℕ → Place) → List ℕ → Place
place_after (Created path did) was q = if bytes_eq path q then created_place did else was q
place_after (Wrote path bytes did) was q = if bytes_eq path q then written_place (was q) bytes did else was q
place_after (Synced path did) was q = if bytes_eq path q then synced_place (was q) did else was q
place_after (Renamed from to did) was q = place_after_rename from to did was q
place_after (DirSynced dir did) was q = if bytes_eq dir (folder_of q) then place_in_synced_dir (was q) did else was q
place_after (Removed path did) was q = if bytes_eq path q then removed_place (was q) did else was q
-- no other entry changes a path
place_after _ was q = was q

-- what is known of each path after these entries
abbrev pub place : List Entry → List ℕ → Place
place [] = λ q. untouched_place
place (entry ∷ past) = place_after entry (place past)

-- what a crash after these entries may leave at a path
abbrev pub leaves : List Entry → List ℕ → List Left
leaves journal path = (place journal path).options

-- what a path names after these entries, where that is known
abbrev pub here_of : List Entry → List ℕ → Option Left
here_of journal path = (place journal path).here

-- a name that no folder's sync settles: what it names is unsure, absent or any
abbrev pub IsUnsettled : Option Left → Type 0
IsUnsettled here = (here ≡ None) ⊎ ((here ≡ Some left.Absent) ⊎ (here ≡ Some left.Any))

-- it is one of these options
abbrev pub Among : Left → List Left → Type 0
Among o [] = ⊥
Among o (x ∷ xs) = (o ≡ x) ⊎ Among o xs

-- each option is a former one or these bytes
abbrev pub OnlyFormerOr : List Left → List ℕ → List Left → Type 0
OnlyFormerOr former bytes options = (o : Left) → Among o options → Among o former ⊎ (o ≡ left.Whole bytes)
