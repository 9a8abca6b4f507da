-- A notebook as a run leaves it, or a part of one: code cells have other outputs and counts (nbformat 4.5,
-- `code_cell`), and metadata other marks under `papermill` (Papermill) and `execution` (nbformat, cell
-- metadata). All else stays.
use Rattle.std.specs.Prelude.{◌≡◌, ◌≤◌, ◌⊎◌, ℕ, true, List, codes, All}
use Rattle.std.specs.List.{AllZip}
use Rattle.jtext.specs.declared.json.Json.{Json}
use Rattle.jtext.specs.Depth.{depth}
use Rattle.jtext.specs.Keyed.{Keyed}
use Rattle.nb_model.specs.declared.cell.Cell.{Cell}
use Rattle.nb_model.specs.declared.notebook.Notebook.{Notebook}
use Rattle.jtext.specs.Edit.{set_field, set_within}
use Rattle.nb_model.specs.Tree.{count_tree}
use Rattle.nb_model.specs.Values.{is_count}
use Rattle.nb_model.specs.Valid.{is_output}

-- the keys under which a run leaves marks
abbrev pub IsMarkKey : List ℕ → Type 0
IsMarkKey key = (key ≡ codes "papermill") ⊎ (key ≡ codes "execution")

-- the new metadata is the old one with values set under those keys, or under keys of the objects there
pub data IsMarked : Json → Json → Type 0 where
  same : (m : Json) → IsMarked m m
  set : (m n p : Json) (key : List ℕ) (v : Json) → IsMarked m n → IsMarkKey key
      → Keyed v → depth v ≤ 124 → p ≡ set_field key v n → IsMarked m p
  within : (m n p : Json) (outer key : List ℕ) (v : Json) → IsMarked m n → IsMarkKey outer
      → Keyed v → depth v ≤ 123 → p ≡ set_within outer key v n → IsMarked m p

-- an output that a cell may have: by the schema, with distinct keys, and no deeper than a notebook has room for
pub record IsFitOutput (o : Json) : Type 0 where
  pub valid : is_output o ≡ true
  pub keyed : Keyed o
  pub within : depth o ≤ 124

-- the new cell is the old one but for its outputs, its count and its marks
pub record IsRunCellOf (old new : Cell) : Type 0 where
  pub is : new ≡ record old { outputs = new.outputs; count = new.count; metadata = new.metadata }
  pub outputs : All IsFitOutput new.outputs
  pub count : is_count (count_tree new.count) ≡ true
  pub metadata : IsMarked old.metadata new.metadata

-- the new notebook is the old one but for its marks and the outputs, counts and marks of its cells
pub record IsRunOf (old new : Notebook) : Type 0 where
  pub metadata : IsMarked old.metadata new.metadata
  pub cells : AllZip IsRunCellOf old.cells new.cells
