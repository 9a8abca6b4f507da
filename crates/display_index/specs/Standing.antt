-- Which places a display id has, after any list of calls.
use Rattle.std.specs.Prelude.{ℕ, Bool, true, List, [], ◌∷◌, ◌&&◌, ◌==◌, not, if◌then◌else◌}
use Rattle.std.specs.Str.{bytes_eq}
use Rattle.display_index.specs.declared.place.Place.{Place}

-- what the index was told
pub data Call : Type 0 where
  added : List ℕ → Place → Call  -- an output with this display id stands at this place
  cleared : ℕ → Call  -- no output stands in this cell any more

-- the cell of a place isn't cleared by one of these
abbrev pub stays : Place → List Call → Bool
stays p [] = true
stays p (added id other ∷ rest) = stays p rest
stays p (cleared cell ∷ rest) = not (p.cell == cell) && stays p rest

-- the places that were added for the id and not cleared after that, in the order of adding
abbrev pub standing : List ℕ → List Call → List Place
standing id [] = []
standing id (added other p ∷ rest) = if bytes_eq other id && stays p rest then p ∷ standing id rest else standing id rest
standing id (cleared cell ∷ rest) = standing id rest
