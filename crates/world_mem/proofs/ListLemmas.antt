-- A list in which an item was set.
use Rattle.std.proofs.Common.{◌≡◌, ℕ, suc, zero, ◌<◌, List, [], ◌∷◌, ◌++◌, take, drop, length, refl, arith, ap}
use Rattle.std.specs.Prelude.{slice_set}

pub set_split : {X : Type 0} (xs : List X) (i : ℕ) (x : X) → i < length xs
    → slice_set xs i x ≡ take i xs ++ x ∷ drop (suc i) xs
set_split [] i x below = absurd (omega arith)
set_split (y ∷ ys) zero x below = refl
set_split (y ∷ ys) (suc i) x below = ap (λ zs. y ∷ zs) (set_split ys i x (omega arith))
