-- The relation: which lists of messages a fold stands for, and which cells may have changed since.
use Rattle.std.specs.Prelude.{◌≡◌, ℕ, ◌<◌, ◌==◌, Bool, true, false, List, [], ◌∷◌, ◌++◌, Option, if◌then◌else◌}
use Rattle.std.specs.List.{list_any}
use Rattle.jcontent.specs.declared.content.Content.{Content}
use Rattle.display_index.specs.Standing.{Call}
use Rattle.display_index.specs.Held as index
use Rattle.out_fold.specs.declared.fold.Fold.{Fold}
use Rattle.out_fold.specs.Live.{live}
use Rattle.out_fold.specs.Names.{has_id}
use Rattle.out_fold.specs.Placing.{has_place, IsWithin}
use Rattle.out_fold.specs.Cells.{Used, with_message, with_reply, contents, outputs_of, count_of, dates_of}
use Rattle.out_fold.specs.Held as inner
use Rattle.out_fold.specs.Plans.{is_in}

-- the cell has a live output with this display id
abbrev pub has_output : List Used → List ℕ → ℕ → Bool
has_output [] id cell = false
has_output (u ∷ us) id cell = if u.cell == cell then list_any (λ c. has_id id c) (live (contents u)) else has_output us id cell

-- ---- the fold

-- how many cells the notebook has
abbrev pub cells_of : Fold → ℕ
cells_of f = inner.cells_of f.held

-- whether neighbouring streams are joined
abbrev pub merge_of : Fold → Bool
merge_of f = inner.merge_of f.held

-- the least cell that may begin: one above the current one, and 0 where none is current
abbrev pub next_of : Fold → ℕ
next_of f = inner.next_of f.held

-- the cells that may have changed
abbrev pub touched_of : Fold → List ℕ
touched_of f = f.touched

-- The fold has been given these messages, for the requests of these cells: it holds what they leave, and its index
-- knows the cells of each display id. The places and the touched cells are among the cells of the notebook.
pub record StandsFor (f : Fold) (us : List Used) : Type 0 where
  pub held : inner.Holds f.held us
  pub calls : List Call
  pub told : index.StandsFor f.index calls
  pub found : (id : List ℕ) (cell : ℕ) → has_output us id cell ≡ true → has_place calls id cell ≡ true
  pub within : IsWithin (cells_of f) calls
  pub touches : (n : ℕ) → is_in (touched_of f) n ≡ true → n < cells_of f

-- what is saved of the cell is the same
pub record SameCell (merge : Bool) (was us : List Used) (cell : ℕ) : Type 0 where
  pub outputs : outputs_of merge us cell ≡ outputs_of merge was cell
  pub count : count_of us cell ≡ count_of was cell
  pub dates : dates_of us cell ≡ dates_of was cell

-- between those messages and these only touched cells have changed
abbrev pub Rested : Fold → List Used → List Used → Type 0
Rested f was us = (cell : ℕ) → is_in (touched_of f) cell ≡ false → SameCell (merge_of f) was us cell

-- ---- what a call does

-- The fold stands for one more message of the last request.
abbrev pub Takes : Fold → Fold → Content → Option (List ℕ) → Type 0
Takes old new c date =
    (us : List Used) (u : Used) → StandsFor old (us ++ u ∷ []) → StandsFor new (us ++ with_message u c date ∷ [])

-- Each cell that the message changed is touched.
abbrev pub TouchesTaken : Fold → Fold → Content → Option (List ℕ) → Type 0
TouchesTaken old new c date =
    (was us : List Used) (u : Used) → StandsFor old (us ++ u ∷ []) → Rested old was (us ++ u ∷ [])
    → Rested new was (us ++ with_message u c date ∷ [])

-- The fold stands for the reply to the last request.
abbrev pub Replies : Fold → Fold → Option (List ℕ) → Type 0
Replies old new date =
    (us : List Used) (u : Used) → StandsFor old (us ++ u ∷ []) → StandsFor new (us ++ with_reply u date ∷ [])

-- Each cell that the reply changed is touched.
abbrev pub TouchesReplied : Fold → Fold → Option (List ℕ) → Type 0
TouchesReplied old new date =
    (was us : List Used) (u : Used) → StandsFor old (us ++ u ∷ []) → Rested old was (us ++ u ∷ [])
    → Rested new was (us ++ with_reply u date ∷ [])

-- The fold stands for what it stood for.
abbrev pub StandsAsBefore : Fold → Fold → Type 0
StandsAsBefore old new = (us : List Used) → StandsFor old us → StandsFor new us
