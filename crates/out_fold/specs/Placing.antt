-- Bookkeeping: what a message tells the index of display ids.
use Rattle.std.specs.Prelude.{◌≡◌, ℕ, ◌<◌, ◌==◌, Bool, true, List, [], ◌∷◌, ◌++◌, Option, Some, None, if◌then◌else◌}
use Rattle.std.specs.List.{list_any}
use Rattle.jcontent.specs.declared.content.Content.{Content}
use Rattle.display_index.specs.declared.index.Index.{Index}
use Rattle.display_index.specs.declared.place.Place.{Place}
use Rattle.display_index.specs.Standing.{Call, standing}
use Rattle.display_index.specs.Standing.Call.{cleared}
use Rattle.display_index.specs.Held as index
use Rattle.out_fold.specs.Live.{appends, clears_now}
use Rattle.out_fold.specs.Names.{has_id}

-- after these calls the id has a place in the cell
abbrev pub has_place : List Call → List ℕ → ℕ → Bool
has_place calls id cell = list_any (λ p. p.cell == cell) (standing id calls)

-- the places of the id of a message, where it has one
abbrev pub named_places : List Call → Option (List ℕ) → List Place
named_places calls None = []
named_places calls (Some id) = standing id calls

-- the cells of all places are below this number
abbrev pub IsWithin : ℕ → List Call → Type 0
IsWithin cells calls = (id : List ℕ) (n : ℕ) → has_place calls id n ≡ true → n < cells

-- what had a place still has one, and of the cells only this one has more
pub record Grown (calls : List Call) (x : Index) (cell : ℕ) : Type 0 where
  pub calls' : List Call
  pub told : index.StandsFor x calls'
  pub more : (id : List ℕ) (n : ℕ) → has_place calls id n ≡ true → has_place calls' id n ≡ true
  pub within : (cells : ℕ) → cell < cells → IsWithin cells calls → IsWithin cells calls'

-- what had a place still has one, and so has the output of this message, where it has a display id
pub record Placed (calls : List Call) (x : Index) (c : Content) (cell : ℕ) : Type 0 where
  pub calls' : List Call
  pub told : index.StandsFor x calls'
  pub more : (id : List ℕ) (n : ℕ) → has_place calls id n ≡ true → has_place calls' id n ≡ true
  pub within : (cells : ℕ) → cell < cells → IsWithin cells calls → IsWithin cells calls'
  pub here : appends c ≡ true → (id : List ℕ) → has_id id c ≡ true → has_place calls' id cell ≡ true

-- the calls with the clear that the message brings
abbrev pub settle : Content → ℕ → List Call → List Call
settle c cell calls = if clears_now c then calls ++ cleared cell ∷ [] else calls

-- what had a place has one but for what the message clears, and so has its output, where it has a display id
pub record Settled (calls : List Call) (x : Index) (c : Content) (cell : ℕ) : Type 0 where
  pub calls' : List Call
  pub told : index.StandsFor x (settle c cell calls')
  pub more : (id : List ℕ) (n : ℕ) → has_place calls id n ≡ true → has_place calls' id n ≡ true
  pub within : (cells : ℕ) → cell < cells → IsWithin cells calls → IsWithin cells (settle c cell calls')
  pub here : appends c ≡ true → (id : List ℕ) → has_id id c ≡ true → has_place calls' id cell ≡ true
