-- The waves that are made, one after another, are those of the jobs.
use Rattle.std.proofs.Common.{◌≡◌, ◌⊎◌, inl, inr, ◌<◌, ◌≤◌, ℕ, zero, suc, ◌+◌, Bool, true, false, ◌&&◌, not, if◌then◌else◌, List, [], ◌∷◌, ◌++◌, length, map, Option, Some, None, refl, sym, ◌∙◌, ap, subst, arith, true≢false}
use Rattle.std.specs.Prelude.{slice_get, slice_index_or, unwrap_or, Contains}
use Rattle.std.specs.List.{list_all, AllByRecursion}
use Rattle.std.specs.Cmp.{first_so, second_so}
use Rattle.std.proofs.lemmas.Bool.{cond-true, cond-false, cases_lt}
use Rattle.std.proofs.lemmas.Option.{none-some}
use Rattle.job_graph.specs.Layers.{is_placed, none_placed, place_more, placed_in, anew_from, placed_anew, wave_at, first_waves, first_unplaced}
use Rattle.job_graph.specs.Waves.{HasWave, IsIn, IncreaseFrom, Increase, AreWaves, IsFirstInCycle}
use Rattle.job_graph.proofs.WaveLemmas.{WaveBelow, placed_has, has_placed, has_placed_all, one_wave}

-- ---- flags

not_so : (b : Bool) → not b ≡ true → b ≡ false
not_so true e = absurd (true≢false (sym e))
not_so false e = refl

so_not : (b : Bool) → b ≡ false → not b ≡ true
so_not true e = absurd (true≢false e)
so_not false e = refl

both : (a b : Bool) → a ≡ true → b ≡ true → (a && b) ≡ true
both true b e f = f
both false b e f = absurd (true≢false (sym e))

either : (b : Bool) → (b ≡ true) ⊎ (b ≡ false)
either true = inl refl
either false = inr refl

-- ---- what is placed anew

-- a job that is placed anew, from an index on
pub record IsAnew (before now : List Bool) (i j : ℕ) : Type 0 where
  pub offset : ℕ
  pub is : j ≡ i + offset
  pub now_so : is_placed now offset ≡ true
  pub not_before : is_placed before j ≡ false

next_anew : (before : List Bool) (b : Bool) (bs : List Bool) (i j : ℕ) → IsAnew before bs (i + 1) j → IsAnew before (b ∷ bs) i j
next_anew before b bs i j a = record { offset = suc a.offset; is = omega (arith, a.is); now_so = a.now_so; not_before = a.not_before }

pub in_anew : (before bs : List Bool) (i j k : ℕ) → slice_get (anew_from before i bs) k ≡ Some j → IsAnew before bs i j
in_anew before [] i j k is = absurd (none-some j is)
in_anew before (b ∷ bs) i j k is = by (λ q e. in_anew before bs (i + 1) j q e) (b && not (is_placed before i)) refl k is
  where
    by : ((q : ℕ) → slice_get (anew_from before (i + 1) bs) q ≡ Some j → IsAnew before bs (i + 1) j)
        → (t : Bool) → (b && not (is_placed before i)) ≡ t → (k : ℕ) → slice_get (anew_from before i (b ∷ bs)) k ≡ Some j → IsAnew before (b ∷ bs) i j
    by rest true e zero is =
        let here : i ≡ j = ap (λ o. unwrap_or o i) (sym (ap (λ l. slice_get l 0) (cond-true (b && not (is_placed before i)) (i ∷ anew_from before (i + 1) bs) (anew_from before (i + 1) bs) e)) ∙ is) in
        record {
          offset = 0;
          is = omega (arith, here);
          now_so = first_so b (not (is_placed before i)) e;
          not_before = subst (λ x. is_placed before x ≡ false) here (not_so (is_placed before i) (second_so b (not (is_placed before i)) e));
        }
    by rest true e (suc k) is =
        next_anew before b bs i j (rest k
        (sym (ap (λ l. slice_get l (suc k)) (cond-true (b && not (is_placed before i)) (i ∷ anew_from before (i + 1) bs) (anew_from before (i + 1) bs) e)) ∙ is))
    by rest false e k is =
        next_anew before b bs i j (rest k
        (sym (ap (λ l. slice_get l k) (cond-false (b && not (is_placed before i)) (i ∷ anew_from before (i + 1) bs) (anew_from before (i + 1) bs) e)) ∙ is))

-- a number stands at some place of a list
pub record At (list : List ℕ) (j : ℕ) : Type 0 where
  pub place : ℕ
  pub is : slice_get list place ≡ Some j

pub anew_in : (before bs : List Bool) (i k j : ℕ) → j ≡ i + k → is_placed bs k ≡ true → is_placed before j ≡ false → At (anew_from before i bs) j
anew_in before [] i k j is now past = absurd (true≢false (sym now))
anew_in before (b ∷ bs) i zero j is now past =
    let here : j ≡ i = omega (arith, is) in
    let e = both b (not (is_placed before i)) now (so_not (is_placed before i) (subst (λ x. is_placed before x ≡ false) here past)) in
    record {
      place = 0;
      is = ap (λ l. slice_get l 0) (cond-true (b && not (is_placed before i)) (i ∷ anew_from before (i + 1) bs) (anew_from before (i + 1) bs) e) ∙ ap (λ x. Some x) (sym here);
    }
anew_in before (b ∷ bs) i (suc k) j is now past = by (anew_in before bs (i + 1) k j (omega (arith, is)) now past) (b && not (is_placed before i)) refl
  where
    by : At (anew_from before (i + 1) bs) j → (t : Bool) → (b && not (is_placed before i)) ≡ t → At (anew_from before i (b ∷ bs)) j
    by rest true e = record {
      place = suc rest.place;
      is = ap (λ l. slice_get l (suc rest.place)) (cond-true (b && not (is_placed before i)) (i ∷ anew_from before (i + 1) bs) (anew_from before (i + 1) bs) e) ∙ rest.is;
    }
    by rest false e = record {
      place = rest.place;
      is = ap (λ l. slice_get l rest.place) (cond-false (b && not (is_placed before i)) (i ∷ anew_from before (i + 1) bs) (anew_from before (i + 1) bs) e) ∙ rest.is;
    }

anew_increases : (before bs : List Bool) (low i : ℕ) → low ≤ i → IncreaseFrom low (anew_from before i bs)
anew_increases before [] low i less = tt
anew_increases before (b ∷ bs) low i less =
    by (anew_increases before bs (i + 1) (i + 1) (omega arith)) (anew_increases before bs low (i + 1) (omega (arith, less))) (b && not (is_placed before i)) refl
  where
    by : IncreaseFrom (i + 1) (anew_from before (i + 1) bs) → IncreaseFrom low (anew_from before (i + 1) bs)
        → (t : Bool) → (b && not (is_placed before i)) ≡ t → IncreaseFrom low (anew_from before i (b ∷ bs))
    by next rest true e =
        subst (λ l. IncreaseFrom low l) (sym (cond-true (b && not (is_placed before i)) (i ∷ anew_from before (i + 1) bs) (anew_from before (i + 1) bs) e)) (less, next)
    by next rest false e =
        subst (λ l. IncreaseFrom low l) (sym (cond-false (b && not (is_placed before i)) (i ∷ anew_from before (i + 1) bs) (anew_from before (i + 1) bs) e)) rest

-- ---- places and containing

pub contained : (list : List ℕ) (j k : ℕ) → slice_get list k ≡ Some j → Contains list j
contained [] j k is = absurd (none-some j is)
contained (x ∷ xs) j zero is = (0, omega arith, ap (λ o. unwrap_or o j) is)
contained (x ∷ xs) j (suc k) is = let c = contained xs j k is in (suc c.0, omega (arith, c.1), c.2)

pub placed_at : (list : List ℕ) (j k : ℕ) → k < length list → slice_index_or list k j ≡ j → At list j
placed_at [] j k within is = absurd (omega (arith, within))
placed_at (x ∷ xs) j zero within is = record { place = 0; is = ap (λ y. Some y) is }
placed_at (x ∷ xs) j (suc k) within is = let a = placed_at xs j k (omega (arith, within)) is in record { place = suc a.place; is = a.is }

-- ---- the waves

length_last : (xs : List (List ℕ)) (y : List ℕ) → length (xs ++ y ∷ []) ≡ suc (length xs)
length_last [] y = refl
length_last (x ∷ xs) y = ap suc (length_last xs y)

pub count_waves : (needs : List (List ℕ)) (k : ℕ) → length (first_waves needs k) ≡ k
count_waves needs zero = refl
count_waves needs (suc k) = length_last (first_waves needs k) (wave_at needs k) ∙ ap suc (count_waves needs k)

get_front : (xs : List (List ℕ)) (y z : List ℕ) (w : ℕ) → slice_get xs w ≡ Some z → slice_get (xs ++ y ∷ []) w ≡ Some z
get_front [] y z w is = absurd (none-some z is)
get_front (x ∷ xs) y z zero is = is
get_front (x ∷ xs) y z (suc w) is = get_front xs y z w is

get_last : (xs : List (List ℕ)) (y : List ℕ) → slice_get (xs ++ y ∷ []) (length xs) ≡ Some y
get_last [] y = refl
get_last (x ∷ xs) y = get_last xs y

get_cases : (xs : List (List ℕ)) (y z : List ℕ) (w : ℕ) → slice_get (xs ++ y ∷ []) w ≡ Some z → (slice_get xs w ≡ Some z) ⊎ ((w ≡ length xs) × (y ≡ z))
get_cases [] y z zero is = inr (refl, ap (λ o. unwrap_or o y) is)
get_cases [] y z (suc w) is = absurd (none-some z is)
get_cases (x ∷ xs) y z zero is = inl is
get_cases (x ∷ xs) y z (suc w) is = by (get_cases xs y z w is)
  where
    by : (slice_get xs w ≡ Some z) ⊎ ((w ≡ length xs) × (y ≡ z)) → (slice_get (x ∷ xs) (suc w) ≡ Some z) ⊎ ((suc w ≡ length (x ∷ xs)) × (y ≡ z))
    by (inl e) = inl e
    by (inr e) = inr (ap suc e.0, e.1)

wave_is : (needs : List (List ℕ)) (k w : ℕ) (jobs : List ℕ) → slice_get (first_waves needs k) w ≡ Some jobs → (w < k) × (wave_at needs w ≡ jobs)
wave_is needs zero w jobs is = absurd (none-some jobs is)
wave_is needs (suc k) w jobs is = by (λ e. wave_is needs k w jobs e) (get_cases (first_waves needs k) (wave_at needs k) jobs w is)
  where
    by : (slice_get (first_waves needs k) w ≡ Some jobs → (w < k) × (wave_at needs w ≡ jobs))
        → (slice_get (first_waves needs k) w ≡ Some jobs) ⊎ ((w ≡ length (first_waves needs k)) × (wave_at needs k ≡ jobs)) → (w < suc k) × (wave_at needs w ≡ jobs)
    by earlier (inl e) = let r = earlier e in (omega (arith, r.0), r.1)
    by earlier (inr e) =
        let same : w ≡ k = e.0 ∙ count_waves needs k in
        (omega (arith, same), ap (wave_at needs) same ∙ e.1)

wave_stands : (needs : List (List ℕ)) (k w : ℕ) → w < k → slice_get (first_waves needs k) w ≡ Some (wave_at needs w)
wave_stands needs zero w below = absurd (omega (arith, below))
wave_stands needs (suc k) w below = by (λ less. wave_stands needs k w less) (cases_lt w k)
  where
    by : (w < k → slice_get (first_waves needs k) w ≡ Some (wave_at needs w)) → (w < k) ⊎ (k ≤ w) → slice_get (first_waves needs (suc k)) w ≡ Some (wave_at needs w)
    by earlier (inl less) = get_front (first_waves needs k) (wave_at needs k) (wave_at needs w) w (earlier less)
    by earlier (inr more) =
        let same : k ≡ w = omega (arith, below, more) in
        subst (λ x. slice_get (first_waves needs (suc k)) x ≡ Some (wave_at needs x)) same
        (subst (λ x. slice_get (first_waves needs (suc k)) x ≡ Some (wave_at needs k)) (count_waves needs k) (get_last (first_waves needs k) (wave_at needs k)))

-- ---- the contract

offset_is : (k j : ℕ) → j ≡ 0 + k → k ≡ j
offset_is k j e = omega (arith, e)

right : (needs : List (List ℕ)) (w i : ℕ) → At (wave_at needs w) i → HasWave needs i w
right needs w i a =
    let new = in_anew (placed_in needs w) (placed_in needs (suc w)) 0 i a.place a.is in
    let one : WaveBelow needs i (suc w) = placed_has needs (suc w) i (subst (λ x. is_placed (placed_in needs (suc w)) x ≡ true) (offset_is new.offset i new.is) new.now_so) in
    by one new.not_before (cases_lt one.wave w)
  where
    by : (one : WaveBelow needs i (suc w)) → is_placed (placed_in needs w) i ≡ false → (one.wave < w) ⊎ (w ≤ one.wave) → HasWave needs i w
    by one past (inl less) = absurd (true≢false (sym (has_placed needs w i one.wave less one.has) ∙ past))
    by one past (inr more) = subst (λ x. HasWave needs i x) (omega (arith, one.below, more)) one.has

stands : (needs : List (List ℕ)) (w i : ℕ) → HasWave needs i w → At (wave_at needs w) i
stands needs w i has = by (either (is_placed (placed_in needs w) i))
  where
    by : (is_placed (placed_in needs w) i ≡ true) ⊎ (is_placed (placed_in needs w) i ≡ false) → At (wave_at needs w) i
    by (inl e) =
        let one = placed_has needs w i e in
        let same : w ≡ one.wave = one_wave needs (suc w) i w one.wave (omega arith) has one.has in
        absurd (omega (arith, one.below, same))
    by (inr e) = anew_in (placed_in needs w) (placed_in needs (suc w)) 0 i i (omega arith) (has_placed needs (suc w) i w (omega arith) has) e

ordered : (needs : List (List ℕ)) (k : ℕ) → AllByRecursion Increase (first_waves needs k)
ordered needs zero = tt
ordered needs (suc k) = last (first_waves needs k) (ordered needs k)
  where
    last : (xs : List (List ℕ)) → AllByRecursion Increase xs → AllByRecursion Increase (xs ++ wave_at needs k ∷ [])
    last [] all = (anew_increases (placed_in needs k) (placed_in needs (suc k)) 0 0 (omega arith), tt)
    last (x ∷ xs) all = (all.0, last xs all.1)

all_placed : (bs : List Bool) (i : ℕ) → list_all (λ b. b) bs ≡ true → i < length bs → is_placed bs i ≡ true
all_placed [] i all within = absurd (omega (arith, within))
all_placed (b ∷ bs) zero all within = first_so b (list_all (λ b. b) bs) all
all_placed (b ∷ bs) (suc i) all within = all_placed bs i (second_so b (list_all (λ b. b) bs) all) (omega (arith, within))

length_map : {A B : Type 0} (f : A → B) (xs : List A) → length (map f xs) ≡ length xs
length_map f [] = refl
length_map f (x ∷ xs) = ap suc (length_map f xs)

pub count_placed : (needs : List (List ℕ)) (k : ℕ) → length (placed_in needs k) ≡ length needs
count_placed needs zero = length_map (λ list. false) needs
count_placed needs (suc k) = length_map (list_all (is_placed (placed_in needs k))) needs

is_within : (needs : List (List ℕ)) (i : ℕ) (list : List ℕ) → slice_get needs i ≡ Some list → i < length needs
is_within [] i list is = absurd (none-some list is)
is_within (x ∷ xs) zero list is = omega arith
is_within (x ∷ xs) (suc i) list is = let below = is_within xs i list is in omega (arith, below)

job_of : (needs : List (List ℕ)) (i w : ℕ) → HasWave needs i w → i < length needs
job_of needs i w (HasWave.wave list waves is size have) = is_within needs i list is

-- where all are placed, the waves are those of the jobs
pub are_waves : (needs : List (List ℕ)) (k : ℕ) → list_all (λ b. b) (placed_in needs k) ≡ true → AreWaves needs (first_waves needs k)
are_waves needs k all = record {
  ordered = ordered needs k;
  right = λ w i it.
      let found = wave_is needs k w it.jobs it.is in
      right needs w i (subst (λ l. At l i) (sym found.1) (placed_at it.jobs i it.has.0 it.has.1 it.has.2));
  all = λ w i has.
      let one = placed_has needs k i (all_placed (placed_in needs k) i all (omega (arith, job_of needs i w has, count_placed needs k))) in
      let same : w ≡ one.wave = one_wave needs (suc w) i w one.wave (omega arith) has one.has in
      let at = stands needs w i has in
      record { jobs = wave_at needs w; is = wave_stands needs k w (omega (arith, one.below, same)); has = contained (wave_at needs w) i at.place at.is };
  every = λ i within.
      let one = placed_has needs k i (all_placed (placed_in needs k) i all (omega (arith, within, count_placed needs k))) in
      (one.wave, one.has);
}

-- ---- no further wave

-- where nothing is placed anew, what would be placed is
still : (needs : List (List ℕ)) (k : ℕ) → length (wave_at needs k) ≡ 0 → (i : ℕ) → is_placed (placed_in needs (suc k)) i ≡ true → is_placed (placed_in needs k) i ≡ true
still needs k none i now = by (either (is_placed (placed_in needs k) i))
  where
    empty : (list : List ℕ) → length list ≡ 0 → At list i → ⊥
    empty [] e a = none-some i a.is
    empty (x ∷ xs) e a = omega (arith, e)

    by : (is_placed (placed_in needs k) i ≡ true) ⊎ (is_placed (placed_in needs k) i ≡ false) → is_placed (placed_in needs k) i ≡ true
    by (inl e) = e
    by (inr e) = absurd (empty (wave_at needs k) none (anew_in (placed_in needs k) (placed_in needs (suc k)) 0 i i (omega arith) now e))

-- the first that isn't placed
pub record IsFirst (bs : List Bool) (from job : ℕ) : Type 0 where
  pub offset : ℕ
  pub is : job ≡ from + offset
  pub within : offset < length bs
  pub not_placed : is_placed bs offset ≡ false
  pub before : (i : ℕ) → i < offset → is_placed bs i ≡ true

first_is : (bs : List Bool) (from : ℕ) → list_all (λ b. b) bs ≡ false → IsFirst bs from (first_unplaced from bs)
first_is [] from some = absurd (true≢false some)
first_is (false ∷ bs) from some = record { offset = 0; is = omega arith; within = omega arith; not_placed = refl; before = λ i below. absurd (omega (arith, below)) }
first_is (true ∷ bs) from some =
    let rest = first_is bs (from + 1) some in
    record { offset = suc rest.offset; is = omega (arith, rest.is); within = omega (arith, rest.within); not_placed = rest.not_placed; before = cases rest }
  where
    cases : (rest : IsFirst bs (from + 1) (first_unplaced (from + 1) bs)) (i : ℕ) → i < suc rest.offset → is_placed (true ∷ bs) i ≡ true
    cases rest zero below = refl
    cases rest (suc i) below = rest.before i (omega (arith, below))

pub is_first_in_cycle : (needs : List (List ℕ)) (k : ℕ) → list_all (λ b. b) (placed_in needs k) ≡ false → length (wave_at needs k) ≡ 0
    → IsFirstInCycle needs (first_unplaced 0 (placed_in needs k))
is_first_in_cycle needs k some none =
    let first = first_is (placed_in needs k) 0 some in
    let job = first_unplaced 0 (placed_in needs k) in
    let same : first.offset ≡ job = omega (arith, first.is) in
    record {
      is_job = omega (arith, same, first.within, count_placed needs k);
      none = λ w has.
          true≢false (sym (has_placed_all needs k (still needs k none) (suc w) job w (omega arith) has) ∙ subst (λ x. is_placed (placed_in needs k) x ≡ false) same first.not_placed);
      before = λ i below.
          let one = placed_has needs k i (first.before i (omega (arith, below, same))) in
          (one.wave, one.has);
    }

-- ---- the measure

-- how many aren't placed
abbrev pub unplaced : List Bool → ℕ
unplaced [] = 0
unplaced (true ∷ bs) = unplaced bs
unplaced (false ∷ bs) = suc (unplaced bs)

one_more : (a b : ℕ) → a ≤ b → suc a ≤ suc b
one_more a b h = omega (arith, h)

at_last : (a b : ℕ) → a ≤ b → a ≤ suc b
at_last a b h = omega (arith, h)

below_next : (a b : ℕ) → a ≤ b → a < suc b
below_next a b h = omega (arith, h)

below_last : (a b : ℕ) → a < b → a < suc b
below_last a b h = omega (arith, h)

both_next : (a b : ℕ) → a < b → suc a < suc b
both_next a b h = omega (arith, h)

no_more : (ps ns : List Bool) → length ps ≡ length ns → ((i : ℕ) → is_placed ps i ≡ true → is_placed ns i ≡ true) → unplaced ns ≤ unplaced ps
no_more [] [] e up = omega arith
no_more [] (n ∷ ns) e up = absurd (omega (arith, e))
no_more (p ∷ ps) [] e up = absurd (omega (arith, e))
no_more (true ∷ ps) (true ∷ ns) e up = no_more ps ns (omega (arith, e)) (λ i h. up (suc i) h)
no_more (true ∷ ps) (false ∷ ns) e up = absurd (true≢false (sym (up 0 refl)))
no_more (false ∷ ps) (true ∷ ns) e up = let r = no_more ps ns (omega (arith, e)) (λ i h. up (suc i) h) in at_last (unplaced ns) (unplaced ps) r
no_more (false ∷ ps) (false ∷ ns) e up = one_more (unplaced ns) (unplaced ps) (no_more ps ns (omega (arith, e)) (λ i h. up (suc i) h))

fewer : (ps ns : List Bool) (j : ℕ) → length ps ≡ length ns → ((i : ℕ) → is_placed ps i ≡ true → is_placed ns i ≡ true)
    → is_placed ns j ≡ true → is_placed ps j ≡ false → unplaced ns < unplaced ps
fewer [] [] j e up now past = absurd (true≢false (sym now))
fewer [] (n ∷ ns) j e up now past = absurd (omega (arith, e))
fewer (p ∷ ps) [] j e up now past = absurd (omega (arith, e))
fewer (true ∷ ps) (n ∷ ns) zero e up now past = absurd (true≢false past)
fewer (false ∷ ps) (false ∷ ns) zero e up now past = absurd (true≢false (sym now))
fewer (false ∷ ps) (true ∷ ns) zero e up now past = let r = no_more ps ns (omega (arith, e)) (λ i h. up (suc i) h) in below_next (unplaced ns) (unplaced ps) r
fewer (true ∷ ps) (true ∷ ns) (suc j) e up now past = fewer ps ns j (omega (arith, e)) (λ i h. up (suc i) h) now past
fewer (true ∷ ps) (false ∷ ns) (suc j) e up now past = absurd (true≢false (sym (up 0 refl)))
fewer (false ∷ ps) (true ∷ ns) (suc j) e up now past = let r = fewer ps ns j (omega (arith, e)) (λ i h. up (suc i) h) now past in below_last (unplaced ns) (unplaced ps) r
fewer (false ∷ ps) (false ∷ ns) (suc j) e up now past = let r = fewer ps ns j (omega (arith, e)) (λ i h. up (suc i) h) now past in both_next (unplaced ns) (unplaced ps) r

-- a wave that has a job leaves fewer unplaced
pub fewer_unplaced : (needs : List (List ℕ)) (k : ℕ) → 0 < length (wave_at needs k) → unplaced (placed_in needs (suc k)) < unplaced (placed_in needs k)
fewer_unplaced needs k some = by (wave_at needs k) some refl
  where
    by : (list : List ℕ) → 0 < length list → wave_at needs k ≡ list → unplaced (placed_in needs (suc k)) < unplaced (placed_in needs k)
    by [] some e = absurd (omega (arith, some))
    by (j ∷ js) some e =
        let new = in_anew (placed_in needs k) (placed_in needs (suc k)) 0 j 0 (ap (λ l. slice_get l 0) e) in
        fewer (placed_in needs k) (placed_in needs (suc k)) j (count_placed needs k ∙ sym (count_placed needs (suc k)))
        (λ i h. let one = placed_has needs k i h in has_placed needs (suc k) i one.wave (omega (arith, one.below)) one.has)
        (subst (λ x. is_placed (placed_in needs (suc k)) x ≡ true) (offset_is new.offset j new.is) new.now_so) new.not_before

-- ---- the loop

wave_same : (needs : List (List ℕ)) (k : ℕ) (placed next : List Bool) (wave : List ℕ) → placed ≡ placed_in needs k → next ≡ place_more needs placed
    → wave ≡ placed_anew 0 placed next → wave ≡ wave_at needs k
wave_same needs k placed next wave e n is =
    is ∙ ap (λ p. placed_anew 0 p next) e ∙ ap (placed_anew 0 (placed_in needs k)) (n ∙ ap (place_more needs) e)

pub next_made : (needs waves new : List (List ℕ)) (placed next : List Bool) (wave : List ℕ) → waves ≡ first_waves needs (length waves)
    → placed ≡ placed_in needs (length waves) → next ≡ place_more needs placed → wave ≡ placed_anew 0 placed next → new ≡ waves ++ wave ∷ []
    → new ≡ first_waves needs (length new)
next_made needs waves new placed next wave made e n is grown =
    let size : length new ≡ suc (length waves) = ap length grown ∙ length_last waves wave in
    grown ∙ ap (λ ws. ws ++ wave ∷ []) made ∙ ap (λ w. first_waves needs (length waves) ++ w ∷ []) (wave_same needs (length waves) placed next wave e n is)
    ∙ sym (ap (first_waves needs) size)

pub next_placed : (needs waves new : List (List ℕ)) (placed next : List Bool) (wave : List ℕ) → placed ≡ placed_in needs (length waves)
    → next ≡ place_more needs placed → new ≡ waves ++ wave ∷ [] → next ≡ placed_in needs (length new)
next_placed needs waves new placed next wave e n grown =
    let size : length new ≡ suc (length waves) = ap length grown ∙ length_last waves wave in
    n ∙ ap (place_more needs) e ∙ sym (ap (placed_in needs) size)

pub next_fewer : (needs waves : List (List ℕ)) (placed next : List Bool) (wave : List ℕ) → placed ≡ placed_in needs (length waves)
    → next ≡ place_more needs placed → wave ≡ placed_anew 0 placed next → 0 < length wave → unplaced next < unplaced placed
next_fewer needs waves placed next wave e n is some =
    let k = length waves in
    subst (λ p. unplaced next < unplaced p) (sym e) (subst (λ p. unplaced p < unplaced (placed_in needs k)) (sym (n ∙ ap (place_more needs) e))
    (fewer_unplaced needs k (subst (λ w. 0 < length w) (wave_same needs k placed next wave e n is) some)))

pub cycle_found : (needs waves : List (List ℕ)) (placed next : List Bool) (wave : List ℕ) → placed ≡ placed_in needs (length waves)
    → next ≡ place_more needs placed → wave ≡ placed_anew 0 placed next → length wave ≡ 0 → list_all (λ b. b) placed ≡ false
    → IsFirstInCycle needs (first_unplaced 0 placed)
cycle_found needs waves placed next wave e n is none some =
    let k = length waves in
    subst (λ p. IsFirstInCycle needs (first_unplaced 0 p)) (sym e)
    (is_first_in_cycle needs k (subst (λ p. list_all (λ b. b) p ≡ false) e some) (ap length (sym (wave_same needs k placed next wave e n is)) ∙ none))

pub waves_found : (needs waves : List (List ℕ)) (placed : List Bool) → waves ≡ first_waves needs (length waves) → placed ≡ placed_in needs (length waves)
    → list_all (λ b. b) placed ≡ true → AreWaves needs waves
waves_found needs waves placed made e all =
    subst (λ ws. AreWaves needs ws) (sym made) (are_waves needs (length waves) (subst (λ p. list_all (λ b. b) p ≡ true) e all))

pub some_left : (list : List ℕ) → (list ≡ [] → ⊥) → 0 < length list
some_left [] none = absurd (none refl)
some_left (x ∷ xs) none = omega arith
