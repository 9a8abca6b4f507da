-- The waves have no more jobs than there are.
use Rattle.std.proofs.Common.{◌≡◌, ◌≤◌, ℕ, zero, suc, ◌+◌, Bool, true, false, ◌&&◌, not, cond, List, [], ◌∷◌, ◌++◌, length, map, refl, sym, ◌∙◌, ap, subst, arith}
use Rattle.std.proofs.lemmas.Bool.{cond-true, cond-false}
use Rattle.job_graph.specs.Layers.{is_placed, none_placed, placed_in, anew_from, wave_at, first_waves}
use Rattle.job_graph.specs.Waves.{job_count}
use Rattle.job_graph.proofs.WaveLemmas.{placed_has, has_placed}
use Rattle.job_graph.proofs.Assembly.{unplaced, count_placed}

-- what is placed anew isn't among what stays unplaced
anew_few : (before bs rest : List Bool) (i : ℕ) → ((k : ℕ) → is_placed before (i + k) ≡ is_placed rest k) → length rest ≡ length bs
    → ((k : ℕ) → is_placed rest k ≡ true → is_placed bs k ≡ true) → length (anew_from before i bs) + unplaced bs ≤ unplaced rest
anew_few before [] rest i same size up = omega arith
anew_few before (b ∷ bs) [] i same size up = absurd (omega (arith, size))
anew_few before (b ∷ bs) (r ∷ rest) i same size up =
    by (anew_few before bs rest (i + 1) (λ k. subst (λ n. is_placed before n ≡ is_placed rest k) (omega arith) (same (suc k))) (omega (arith, size)) (λ k h. up (suc k) h)) b r refl refl
  where
    here : is_placed before i ≡ r
    here = subst (λ n. is_placed before n ≡ r) (omega arith) (same 0)

    skips : (x : Bool) → (x && not (is_placed before i)) ≡ false → length (cond (x && not (is_placed before i)) (i ∷ anew_from before (i + 1) bs) (anew_from before (i + 1) bs)) ≡ length (anew_from before (i + 1) bs)
    skips x e = ap length (cond-false (x && not (is_placed before i)) (i ∷ anew_from before (i + 1) bs) (anew_from before (i + 1) bs) e)

    takes : (x : Bool) → (x && not (is_placed before i)) ≡ true → length (cond (x && not (is_placed before i)) (i ∷ anew_from before (i + 1) bs) (anew_from before (i + 1) bs)) ≡ suc (length (anew_from before (i + 1) bs))
    takes x e = ap length (cond-true (x && not (is_placed before i)) (i ∷ anew_from before (i + 1) bs) (anew_from before (i + 1) bs) e)

    by : length (anew_from before (i + 1) bs) + unplaced bs ≤ unplaced rest → (x y : Bool) → b ≡ x → r ≡ y
        → length (anew_from before i (b ∷ bs)) + unplaced (b ∷ bs) ≤ unplaced (r ∷ rest)
    by more x true e f =
        let now : b ≡ true = up 0 f in
        let skipped = skips b (ap (λ q. b && not q) (here ∙ f) ∙ ap (λ q. q && false) now) in
        let l : unplaced (b ∷ bs) ≡ unplaced bs = ap (λ q. unplaced (q ∷ bs)) now in
        let m : unplaced (r ∷ rest) ≡ unplaced rest = ap (λ q. unplaced (q ∷ rest)) f in
        omega (arith, more, skipped, l, m)
    by more true false e f =
        let taken = takes b (ap (λ q. b && not q) (here ∙ f) ∙ ap (λ q. q && true) e) in
        let l : unplaced (b ∷ bs) ≡ unplaced bs = ap (λ q. unplaced (q ∷ bs)) e in
        let m : unplaced (r ∷ rest) ≡ suc (unplaced rest) = ap (λ q. unplaced (q ∷ rest)) f in
        omega (arith, more, taken, l, m)
    by more false false e f =
        let skipped = skips b (ap (λ q. q && not (is_placed before i)) e) in
        let l : unplaced (b ∷ bs) ≡ suc (unplaced bs) = ap (λ q. unplaced (q ∷ bs)) e in
        let m : unplaced (r ∷ rest) ≡ suc (unplaced rest) = ap (λ q. unplaced (q ∷ rest)) f in
        omega (arith, more, skipped, l, m)

wave_few : (needs : List (List ℕ)) (k : ℕ) → length (wave_at needs k) + unplaced (placed_in needs (suc k)) ≤ unplaced (placed_in needs k)
wave_few needs k =
    anew_few (placed_in needs k) (placed_in needs (suc k)) (placed_in needs k) 0 (λ i. ap (is_placed (placed_in needs k)) (omega arith)) (count_placed needs k ∙ sym (count_placed needs (suc k)))
    (λ i h. let one = placed_has needs k i h in has_placed needs (suc k) i one.wave (omega (arith, one.below)) one.has)

sum_last : (xs : List (List ℕ)) (y : List ℕ) → job_count (xs ++ y ∷ []) ≡ job_count xs + length y
sum_last [] y =
    let step : length y + 0 ≡ 0 + length y = omega arith in
    step
sum_last (x ∷ xs) y =
    let rest = sum_last xs y in
    let step : length x + job_count (xs ++ y ∷ []) ≡ (length x + job_count xs) + length y = omega (arith, rest) in
    step

none_count : (needs : List (List ℕ)) → unplaced (none_placed needs) ≡ length needs
none_count [] = refl
none_count (list ∷ rest) = ap suc (none_count rest)

first_few : (needs : List (List ℕ)) (k : ℕ) → job_count (first_waves needs k) + unplaced (placed_in needs k) ≤ length needs
first_few needs zero = let e = none_count needs in omega (arith, e)
first_few needs (suc k) =
    let before = first_few needs k in
    let wave = wave_few needs k in
    let s = sum_last (first_waves needs k) (wave_at needs k) in
    omega (arith, before, wave, s)

pub few_waves : (needs waves : List (List ℕ)) → waves ≡ first_waves needs (length waves) → job_count waves ≤ length needs
few_waves needs waves made =
    let all = first_few needs (length waves) in
    subst (λ ws. job_count ws ≤ length needs) (sym made) (omega (arith, all))
