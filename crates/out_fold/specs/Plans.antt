-- Bookkeeping: cells in increasing order, among them the touched ones.
use Rattle.std.specs.Prelude.{◌≡◌, ℕ, ◌==◌, ◌+◌, Bool, true, false, List, [], ◌∷◌, ◌&&◌, ◌||◌, nat_lt, Option, Some, None, if◌then◌else◌}
use Rattle.std.specs.List.{list_any, list_all, remove}
use Rattle.display_index.specs.declared.place.Place.{Place}
use Rattle.out_fold.specs.declared.before.Before.{Before}
use Rattle.out_fold.specs.declared.before.Before.TheVariants as before

-- the cell is one of these
abbrev pub is_in : List ℕ → ℕ → Bool
is_in cells cell = list_any (λ n. n == cell) cells

-- each is below those after it
abbrev pub increases : List ℕ → Bool
increases [] = true
increases (n ∷ ns) = list_all (nat_lt n) ns && increases ns

-- the new list increases, and has the old one's cells, this cell, those of the places and no others
pub record Covers (old new : List ℕ) (cell : ℕ) (ps : List Place) : Type 0 where
  pub sorted : increases new ≡ true
  pub kept : (n : ℕ) → is_in new n ≡ false → is_in old n ≡ false
  pub current : is_in new cell ≡ true
  pub placed : (n : ℕ) → is_in new n ≡ false → list_any (λ p. p.cell == n) ps ≡ false
  pub only : (n : ℕ) → is_in new n ≡ true → (((cell == n) || is_in old n) || list_any (λ p. p.cell == n) ps) ≡ true

-- how many of the cells at the beginning are below this one
abbrev pub lead : List ℕ → ℕ → ℕ
lead [] cell = 0
lead (n ∷ ns) cell = if nat_lt n cell then lead ns cell + 1 else 0

-- without the one at this index
abbrev pub without : Option ℕ → List ℕ → List ℕ
without None cells = cells
without (Some at) cells = remove cells at

-- the cells as they were before
abbrev pub cells_before : Before → List ℕ → List ℕ
cells_before before.Same cells = cells
cells_before (before.Without at) cells = without (Some at) cells
cells_before (before.Cells old) cells = old
