-- No kernel of a run was told a moment after the clock's start.
use Rattle.std.proofs.Common.{◌≡◌, ℕ, zero, suc, ◌+◌, ◌<◌, ◌≤◌, List, [], ◌∷◌, ◌++◌, length, get_or, sym, subst, arith}
use Rattle.std.specs.Prelude.{All}
use Rattle.std.proofs.lemmas.List.Elements.{All-append, All-nil}
use Rattle.toy_core.specs.declared.toy.Toy.{Toy}
use Rattle.toy_core.specs.Toy.{latest_of}

one : (toy : Toy) → latest_of toy ≡ 0 → (n : ℕ) (d : Toy) → n < length (toy ∷ []) → latest_of (get_or (toy ∷ []) n d) ≤ 0
one toy early zero d less = omega (arith, early)
one toy early (suc n) d less = absurd (omega (arith, less))

pub none_yet : (toys : List Toy) → toys ≡ [] → All (λ k. latest_of k ≤ 0) toys
none_yet toys is = subst (All (λ k. latest_of k ≤ 0)) (sym is) (All-nil (λ k. latest_of k ≤ 0))

pub one_more : (old new : List Toy) (toy : Toy) → new ≡ old ++ toy ∷ [] → latest_of toy ≡ 0 → All (λ k. latest_of k ≤ 0) old → All (λ k. latest_of k ≤ 0) new
one_more old new toy is early all =
    subst (All (λ k. latest_of k ≤ 0)) (sym is) (All-append (λ k. latest_of k ≤ 0) old (toy ∷ []) all (one toy early))
