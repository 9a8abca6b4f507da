-- The cells of a save, one settled after the other.
use Rattle.std.proofs.Common.{◌≡◌, ◌⊎◌, inl, inr, ℕ, zero, suc, ◌+◌, ◌<◌, ◌≤◌, List, [], ◌∷◌, map, length, set, Some, refl, sym, ◌∙◌, ap, ap₂, arith}
use Rattle.std.specs.Prelude.{nat_lt, slice_get, if◌then◌else◌}
use Rattle.std.specs.List.{enumerate_from}
use Rattle.std.proofs.lemmas.Bool.{cond-true, cond-false, cases_lt}
use Rattle.std.proofs.lemmas.Option.{slice_get_cases}

module _ {X : Type 0} (f : ℕ → X → X) where
  -- the element at this index, changed where the index is below the bound
  abbrev pub changed : ℕ → ℕ → X → X
  changed m i x = if nat_lt i m then f i x else x

  -- those from this index on
  abbrev pub changed_from : ℕ → ℕ → List X → List X
  changed_from m k xs = map (λ q. changed m q.0 q.1) (enumerate_from k xs)

  pub below : (m i : ℕ) (x : X) → i < m → changed m i x ≡ f i x
  below m i x lt = cond-true (nat_lt i m) _ _ (grind (arith, lt))

  pub above : (m i : ℕ) (x : X) → m ≤ i → changed m i x ≡ x
  above m i x le = cond-false (nat_lt i m) _ _ (grind (arith, le))

  -- none is below the bound
  pub none_changed : (m k : ℕ) (xs : List X) → m ≤ k → changed_from m k xs ≡ xs
  none_changed m k [] le = refl
  none_changed m k (x ∷ xs) le = ap₂ (λ y ys. y ∷ ys) (above m k x le) (none_changed m (k + 1) xs (omega (arith, le)))

  -- with the one at the bound the bound is one higher
  pub one_more : (m k i : ℕ) (xs : List X) (x : X) → m ≡ k + i → slice_get xs i ≡ Some x → set (changed_from m k xs) i (f m x) ≡ changed_from (m + 1) k xs
  one_more m k i [] x e at = cc
  one_more m k zero (y ∷ ys) x e at =
      let same : y ≡ x = cc in
      let here : m ≡ k = omega (arith, e) in
      ap₂ (λ z zs. z ∷ zs) (ap₂ f here (sym same) ∙ sym (below (m + 1) k y (omega (arith, e))))
      (none_changed m (k + 1) ys (omega (arith, e)) ∙ sym (none_changed (m + 1) (k + 1) ys (omega (arith, e))))
  one_more m k (suc i) (y ∷ ys) x e at =
      ap₂ (λ z zs. z ∷ zs) (below m k y (omega (arith, e)) ∙ sym (below (m + 1) k y (omega (arith, e)))) (one_more m (k + 1) i ys x (omega (arith, e)) at)

  -- at the bound and above it they are as they were
  pub get_above : (m k i : ℕ) (xs : List X) → m ≤ k + i → slice_get (changed_from m k xs) i ≡ slice_get xs i
  get_above m k i [] le = refl
  get_above m k zero (y ∷ ys) le = ap Some (above m k y (omega (arith, le)))
  get_above m k (suc i) (y ∷ ys) le = get_above m (k + 1) i ys (omega (arith, le))

  -- below both bounds they are the same
  get_below : (m p k i : ℕ) (xs : List X) → k + i < m → k + i < p → slice_get (changed_from m k xs) i ≡ slice_get (changed_from p k xs) i
  get_below m p k i [] lt lp = refl
  get_below m p k zero (y ∷ ys) lt lp = ap Some (below m k y (omega (arith, lt)) ∙ sym (below p k y (omega (arith, lp))))
  get_below m p k (suc i) (y ∷ ys) lt lp = get_below m p (k + 1) i ys (omega (arith, lt)) (omega (arith, lp))

  -- below a lower bound each is as with the higher one, and above it as before
  pub between : (m p i : ℕ) (xs : List X) → m ≤ p → (slice_get (changed_from m 0 xs) i ≡ slice_get xs i) ⊎ (slice_get (changed_from m 0 xs) i ≡ slice_get (changed_from p 0 xs) i)
  between m p i xs le = elim (cases_lt i m) [ inl lt ↦ inr (get_below m p 0 i xs (omega (arith, lt)) (omega (arith, lt, le))) | inr ge ↦ inl (get_above m 0 i xs (omega (arith, ge))) ]

  pub settle_more : (m : ℕ) (was now after : List X) → now ≡ changed_from m 0 was → m < length was
      → ((x : X) → slice_get was m ≡ Some x → slice_get now m ≡ Some x → after ≡ set now m (f m x)) → after ≡ changed_from (m + 1) 0 was
  settle_more m was now after e lt sets = elim (slice_get_cases was m).1 [
    | inl here ↦ step here.0 here.2
    | inr past ↦ absurd (omega (arith, lt, past.0))
  ]
    where
      step : (x : X) → slice_get was m ≡ Some x → after ≡ changed_from (m + 1) 0 was
      step x at =
          sets x at (ap (λ l. slice_get l m) e ∙ get_above m 0 m was (omega arith) ∙ at)
          ∙ ap (λ l. set l m (f m x)) e
          ∙ one_more m 0 m was x (omega arith) at

  pub part_way : (m p : ℕ) (was now : List X) → now ≡ changed_from m 0 was → m ≤ p → (i : ℕ)
      → (slice_get now i ≡ slice_get was i) ⊎ (slice_get now i ≡ slice_get (changed_from p 0 was) i)
  part_way m p was now e le i = elim (between m p i was le) [
    | inl old ↦ inl (ap (λ l. slice_get l i) e ∙ old)
    | inr new ↦ inr (ap (λ l. slice_get l i) e ∙ new)
  ]

  pub length-changed : (m k : ℕ) (xs : List X) → length (changed_from m k xs) ≡ length xs
  length-changed m k [] = refl
  length-changed m k (x ∷ xs) = ap suc (length-changed m (k + 1) xs)
