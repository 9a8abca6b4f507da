-- The files that a crash may leave after some entries, picked by the digits of a number.
use Rattle.std.specs.Prelude.{
  ◌≡◌,
  ◌⊎◌,
  ◌/◌,
  ◌%◌,
  ℕ,
  List,
  [],
  ◌∷◌,
  ◌++◌,
  length,
  true,
  false,
  Option,
  Some,
  None,
  slice_get,
  unwrap_or,
}
use Rattle.world.specs.declared.entry.Entry.{Entry}
use Rattle.world.specs.declared.left.Left.{Left}
use Rattle.world.specs.declared.left.Left.TheVariants as left
use Rattle.world.specs.Disk.{leaves}
use Rattle.world_mem.specs.Folder.{Content, file_at}
use Rattle.world_mem.specs.Known.{are_ascending}
use Rattle.jtext.specs.Texts.{is_among}

-- what an option stands for at a path with this file at the start: `Any` counts as absent, no byte and the one byte X
abbrev pub choices_of : Option (List ℕ) → Left → List (Option (List ℕ))
choices_of old left.Old = old ∷ []
choices_of old left.Absent = None ∷ []
choices_of old (left.Whole bytes) = Some bytes ∷ []
choices_of old left.Any = None ∷ Some [] ∷ Some (88 ∷ []) ∷ []

-- what these options stand for, in their order
abbrev pub all_choices : Option (List ℕ) → List Left → List (Option (List ℕ))
all_choices old [] = []
all_choices old (option ∷ options) = choices_of old option ++ all_choices old options

-- the choice that a number picks
abbrev pub pick : List (Option (List ℕ)) → ℕ → Option (List ℕ)
pick choices number = unwrap_or (slice_get choices (number % length choices)) None

-- a file, where there is one
abbrev pub file_of : List ℕ → Option (List ℕ) → Content
file_of path None = []
file_of path (Some bytes) = (path, bytes) ∷ []

-- the choices at a path after these entries
abbrev pub choices_at : Content → List Entry → List ℕ → List (Option (List ℕ))
choices_at start past path = all_choices (file_at path start) (leaves past path)

-- the files at these paths: each takes one digit of the number, and what is left of it goes to the next
abbrev pub pick_files : Content → List Entry → List (List ℕ) → ℕ → Content
pick_files start past [] number = []
pick_files start past (path ∷ paths) number =
    file_of path (pick (choices_at start past path) number)
    ++ pick_files start past paths (number / length (choices_at start past path))

-- the files are picked at paths in the order of their bytes, and every other path was never named and has no file
pub record IsPicked (start : Content) (past : List Entry) (number : ℕ) (files : Content) : Type 0 where
  pub paths : List (List ℕ)
  pub order : are_ascending paths ≡ true
  pub others : (path : List ℕ) → is_among path paths ≡ false
      → (leaves past path ≡ left.Old ∷ []) × (file_at path start ≡ None)
  pub digits : files ≡ pick_files start past paths number

-- a file or none is what an option allows, where the path had this file or none at the start
abbrev pub Stands : Option (List ℕ) → Option (List ℕ) → Left → Type 0
Stands old now left.Old = now ≡ old
Stands old now left.Absent = now ≡ None
Stands old now (left.Whole bytes) = now ≡ Some bytes
Stands old now left.Any = Unit {0}

-- a file or none is what one of these options allows
abbrev pub IsAllowed : Option (List ℕ) → Option (List ℕ) → List Left → Type 0
IsAllowed old now [] = ⊥
IsAllowed old now (option ∷ options) = Stands old now option ⊎ IsAllowed old now options
