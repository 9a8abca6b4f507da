-- Files in memory: pairs of a path and its bytes, of which the first with a path counts.
use Rattle.std.specs.Prelude.{
  ◌≡◌,
  ℕ,
  suc,
  zero,
  List,
  [],
  ◌∷◌,
  Bool,
  true,
  false,
  Option,
  Some,
  None,
  is_some,
  if◌then◌else◌,
}
use Rattle.std.specs.Str.{bytes_eq}
use Rattle.world_mem.specs.declared.edit.Edit.{Edit}
use Rattle.world_mem.specs.declared.edit.Edit.TheVariants as edit

-- files by their paths
abbrev pub Content : Type 0
Content = List (List ℕ × List ℕ)

-- the bytes of the file at a path
abbrev pub file_at : List ℕ → Content → Option (List ℕ)
file_at path [] = None
file_at path (file ∷ files) = if bytes_eq file.0 path then Some file.1 else file_at path files

-- there is a file at a path
abbrev pub has_file : List ℕ → Content → Bool
has_file path files = is_some (file_at path files)

-- one path now has these bytes, or no file, and all others are as they were
abbrev pub Sets : Content → Content → List ℕ → Option (List ℕ) → Type 0
Sets old new path bytes =
    (other : List ℕ) → file_at other new ≡ (if bytes_eq path other then bytes else file_at other old)

-- the bytes at a path after a file got another name, in place of the file that had it
abbrev pub file_after_move : List ℕ → List ℕ → Content → List ℕ → Option (List ℕ)
file_after_move from to old other =
    if bytes_eq to other then file_at from old
    else (if bytes_eq from other then None else file_at other old)

-- a file has another name now, in place of the file that had it, and all others are as they were
abbrev pub Moves : Content → Content → List ℕ → List ℕ → Type 0
Moves old new from to = (other : List ℕ) → file_at other new ≡ file_after_move from to old other

-- a change of a file that has to be there: it is done, or none is there or memory is refused, and no file changes
abbrev pub Edits : Content → Content → List ℕ → Edit → Type 0 → Type 0
Edits old new path edit.Done change = (has_file path old ≡ true) × change
Edits old new path edit.Absent change = (has_file path old ≡ false) × (new ≡ old)
Edits old new path edit.NoMemory change = (has_file path old ≡ true) × (new ≡ old)

-- the first so many files are not at a path
abbrev pub Passed : List ℕ → Content → ℕ → Type 0
Passed path files zero = Unit {0}
Passed path [] (suc i) = ⊥
Passed path (file ∷ files) (suc i) = (bytes_eq file.0 path ≡ false) × Passed path files i

-- the file number i, from 0, is the first at a path
abbrev pub IsFirst : List ℕ → Content → ℕ → Type 0
IsFirst path [] i = ⊥
IsFirst path (file ∷ files) zero = bytes_eq file.0 path ≡ true
IsFirst path (file ∷ files) (suc i) = (bytes_eq file.0 path ≡ false) × IsFirst path files i
