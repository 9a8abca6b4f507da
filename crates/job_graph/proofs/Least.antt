-- Waves are the least, and follow what is needed.
use Rattle.std.proofs.Common.{◌≡◌, ◌⊎◌, inl, inr, ◌<◌, ◌≤◌, ℕ, zero, suc, ◌+◌, max, List, [], ◌∷◌, length, Some, refl, sym, ◌∙◌, ap, subst, arith}
use Rattle.std.specs.Prelude.{slice_get, slice_index, slice_index_or, unwrap_or, Contains}
use Rattle.std.proofs.lemmas.Bool.{cases_lt}
use Rattle.std.proofs.lemmas.Option.{slice_get-get_or, none-some}
use Rattle.job_graph.specs.Waves.{HasWave, IsOrder, above}
use Rattle.job_graph.proofs.WaveLemmas.{below_above, one_wave}
use Rattle.job_graph.proofs.Assembly.{contained, At, placed_at}

above_within : (ws : List ℕ) (m : ℕ) → ((k : ℕ) → k < length ws → slice_index ws k < m) → above ws ≤ m
above_within [] m each = omega arith
above_within (w ∷ ws) m each =
    let first = each 0 (omega arith) in
    let rest = above_within ws m (λ k within. each (suc k) (omega (arith, within))) in omega (arith, first, rest)

here : (list : List ℕ) (k : ℕ) → k < length list → Contains list (slice_index list k)
here list k within = contained list (slice_index list k) k (slice_get-get_or list k 0 within)

pub least : (needs : List (List ℕ)) (turn : ℕ → ℕ) → IsOrder needs turn → (fuel i w : ℕ) → w < fuel → HasWave needs i w → w ≤ turn i
least needs turn order zero i w below h = absurd (omega (arith, below))
least needs turn order (suc fuel) i w below (HasWave.wave list waves is size have) =
    above_within waves (turn i) (λ k within.
    let inside : k < length list = omega (arith, within, size) in
    let less = below_above waves k within in
    let later = order i (slice_index list k) list is (here list k inside) in
    let earlier = least needs turn order fuel (slice_index list k) (slice_index waves k) (omega (arith, less, below)) (have k inside) in
    omega (arith, later, earlier))

same_list : (a b : List ℕ) → Some a ≡ Some b → a ≡ b
same_list a b e = ap (λ o. unwrap_or o a) e

index_is : (list : List ℕ) (k j : ℕ) → slice_get list k ≡ Some j → (k < length list) × (slice_index list k ≡ j)
index_is [] k j is = absurd (none-some j is)
index_is (x ∷ xs) zero j is = (omega arith, ap (λ o. unwrap_or o x) is)
index_is (x ∷ xs) (suc k) j is = let r = index_is xs k j is in (omega (arith, r.0), r.1)

pub after_needs : (needs : List (List ℕ)) (list : List ℕ) (i j w v : ℕ) → slice_get needs i ≡ Some list → Contains list j
    → HasWave needs i w → HasWave needs j v → v < w
after_needs needs list i j w v at c (HasWave.wave other waves is size have) h =
    let same : list ≡ other = same_list list other (sym at ∙ is) in
    let place = placed_at list j c.0 c.1 c.2 in
    let there = index_is other place.place j (subst (λ l. slice_get l place.place ≡ Some j) same place.is) in
    let less = below_above waves place.place (omega (arith, there.0, size)) in
    let got : HasWave needs j (slice_index waves place.place) = subst (λ x. HasWave needs x (slice_index waves place.place)) there.1 (have place.place there.0) in
    let one = one_wave needs (suc v) j v (slice_index waves place.place) (omega arith) h got in
    omega (arith, less, one)

-- the greatest is reached
reached : (ws : List ℕ) (w : ℕ) → above ws ≡ w + 1 → (k : ℕ) × (k < length ws) × (slice_index ws k ≡ w)
reached [] w e = absurd (omega (arith, e))
reached (v ∷ vs) w e = by (λ h. reached vs w h) (cases_lt v (above vs))
  where
    by : (above vs ≡ w + 1 → (k : ℕ) × (k < length vs) × (slice_index vs k ≡ w)) → (v < above vs) ⊎ (above vs ≤ v)
        → (k : ℕ) × (k < length (v ∷ vs)) × (slice_index (v ∷ vs) k ≡ w)
    by rest (inl less) = let r = rest (omega (arith, less, e)) in (suc r.0, omega (arith, r.1), r.2)
    by rest (inr more) = (0, omega arith, omega (arith, more, e))

pub needs_before : (needs : List (List ℕ)) (i w v : ℕ) → v ≡ w + 1 → HasWave needs i v
    → (list : List ℕ) × (slice_get needs i ≡ Some list) × ((j : ℕ) × Contains list j × HasWave needs j w)
needs_before needs i w v e (HasWave.wave list waves is size have) =
    let r = reached waves w e in
    let inside : r.0 < length list = omega (arith, r.1, size) in
    (list, is, (slice_index list r.0, here list r.0 inside, subst (λ x. HasWave needs (slice_index list r.0) x) r.2 (have r.0 inside)))
