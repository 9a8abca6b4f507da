-- An item put into a list in place of another.
use Rattle.std.proofs.Common.{◌≡◌, ℕ, zero, suc, List, [], ◌∷◌, set, refl, ap, ◌∙◌}
use Rattle.std.specs.Prelude.{slice_get}

-- of two items put at one index the last one stands
pub set_twice : {X : Type 0} (xs : List X) (i : ℕ) (a b : X) → set (set xs i a) i b ≡ set xs i b
set_twice [] i a b = refl
set_twice (x ∷ xs) zero a b = refl
set_twice (x ∷ xs) (suc i) a b = ap (λ ys. x ∷ ys) (set_twice xs i a b)

-- what is put back in place of what held the place
pub put_back : {X : Type 0} (xs ys zs : List X) (i : ℕ) (a b : X) → ys ≡ set xs i a → zs ≡ set ys i b → zs ≡ set xs i b
put_back xs ys zs i a b e f = f ∙ ap (λ l. set l i b) e ∙ set_twice xs i a b

-- lists with the same item at each index are the same
pub same_items : {X : Type 0} (xs ys : List X) → ((i : ℕ) → slice_get xs i ≡ slice_get ys i) → xs ≡ ys
same_items [] [] e = refl
same_items [] (y ∷ ys) e = let h = e 0 in cc
same_items (x ∷ xs) [] e = let h = e 0 in cc
same_items (x ∷ xs) (y ∷ ys) e =
    let h = e 0 in
    let same : x ≡ y = cc in
    ap (λ z. z ∷ xs) same ∙ ap (λ zs. y ∷ zs) (same_items xs ys (λ i. e (suc i)))
