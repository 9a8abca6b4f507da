-- Texts of cells that are kept from one save to the next: at most one a cell, by the cell's index.
use Rattle.std.specs.Prelude.{◌≡◌, ◌≢◌, ℕ, ◌<◌, ◌≤◌, length, Bool, false, List, map, unwrap_or, slice_get, Option, Some, None, IfSome, if◌then◌else◌}
use Rattle.nb_model.specs.declared.cell.Cell.{Cell}
use Rattle.nb_text.specs.Cells.{cell_text}
use Rattle.progress_save.specs.declared.kept_texts.KeptTexts.{KeptTexts}

-- the text at this index is kept
abbrev pub is_kept : KeptTexts → ℕ → Bool
is_kept k i = unwrap_or (slice_get k.stands i) false

-- the text that is kept for the cell at this index
abbrev pub text_at : KeptTexts → ℕ → Option (List ℕ)
text_at k i = if is_kept k i then slice_get k.texts i else None

-- both keep the same texts of cells
abbrev pub KeepsSame : KeptTexts → KeptTexts → Type 0
KeepsSame old new = (i : ℕ) → text_at new i ≡ text_at old i

-- each text that is kept is that of the cell at its index
abbrev pub Fits : KeptTexts → List Cell → Type 0
Fits k cs = (i : ℕ) → IfSome (text_at k i) (λ t. slice_get (map cell_text cs) i ≡ Some t)

-- the texts of just these cells are kept
abbrev pub KeepsAll : KeptTexts → List Cell → Type 0
KeepsAll k cs = (i : ℕ) → text_at k i ≡ slice_get (map cell_text cs) i

-- ---- while texts are made

-- the texts of just these cells are there, whether they are kept or not
pub record IsComplete (k : KeptTexts) (cs : List Cell) : Type 0 where
  pub texts : k.texts ≡ map cell_text cs
  pub places : length cs ≤ length k.stands

-- this text is there at its index, and all others are as they were
pub record IsPut (old new : KeptTexts) (i : ℕ) (text : List ℕ) : Type 0 where
  pub is : slice_get new.texts i ≡ Some text
  pub others : (j : ℕ) → j ≢ i → slice_get new.texts j ≡ slice_get old.texts j
  pub place : i < length new.stands
