-- No kernel behind a script was told a moment after the clock's start.
use Rattle.std.proofs.Common.{◌≡◌, ℕ, zero, suc, ◌+◌, ◌<◌, ◌≤◌, List, [], ◌∷◌, ◌++◌, length, get_or, sym, subst, arith}
use Rattle.std.specs.Prelude.{All}
use Rattle.std.proofs.lemmas.List.Elements.{All-append, All-nil}

one : {K : Type 0} (latest : K → ℕ) (kernel : K) → latest kernel ≡ 0 → (n : ℕ) (d : K) → n < length (kernel ∷ []) → latest (get_or (kernel ∷ []) n d) ≤ 0
one latest kernel early zero d less = omega (arith, early)
one latest kernel early (suc n) d less = absurd (omega (arith, less))

pub none_yet : {K : Type 0} (latest : K → ℕ) (kernels : List K) → kernels ≡ [] → All (λ k. latest k ≤ 0) kernels
none_yet latest kernels is = subst (All (λ k. latest k ≤ 0)) (sym is) (All-nil (λ k. latest k ≤ 0))

pub one_more : {K : Type 0} (latest : K → ℕ) (old new : List K) (kernel : K) → new ≡ old ++ kernel ∷ [] → latest kernel ≡ 0 → All (λ k. latest k ≤ 0) old → All (λ k. latest k ≤ 0) new
one_more latest old new kernel is early all =
    subst (All (λ k. latest k ≤ 0)) (sym is) (All-append (λ k. latest k ≤ 0) old (kernel ∷ []) all (one latest kernel early))
