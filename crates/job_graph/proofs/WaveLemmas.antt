-- Which jobs are placed in the first so many waves, and which waves they have.
use Rattle.std.proofs.Common.{◌≡◌, ◌<◌, ◌≤◌, ℕ, zero, suc, ◌+◌, max, Bool, true, false, ◌&&◌, List, [], ◌∷◌, length, map, Some, refl, sym, ◌∙◌, ap, subst, arith, true≢false}
use Rattle.std.specs.Prelude.{slice_get, slice_index, unwrap_or}
use Rattle.std.specs.List.{list_all}
use Rattle.std.specs.Cmp.{first_so, second_so}
use Rattle.std.proofs.lemmas.List.{ext_get_or}
use Rattle.std.proofs.lemmas.Option.{none-some}
use Rattle.std.proofs.Math.Nat.{le-max_left}
use Rattle.job_graph.specs.Layers.{is_placed, none_placed, place_more, placed_in}
use Rattle.job_graph.specs.Waves.{HasWave, above}

-- ---- the greatest

max_within : (a b m : ℕ) → a ≤ m → b ≤ m → max a b ≤ m
max_within a b m p q = omega arith

pub below_above : (ws : List ℕ) (k : ℕ) → k < length ws → slice_index ws k < above ws
below_above [] k within = absurd (omega (arith, within))
below_above (w ∷ ws) zero within = omega arith
below_above (w ∷ ws) (suc k) within = let rest = below_above ws k (omega (arith, within)) in omega (arith, rest)

-- ---- tests of a list

all_at : (p : ℕ → Bool) (xs : List ℕ) (k : ℕ) → list_all p xs ≡ true → k < length xs → p (slice_index xs k) ≡ true
all_at p [] k all within = absurd (omega (arith, within))
all_at p (x ∷ xs) zero all within = first_so (p x) (list_all p xs) all
all_at p (x ∷ xs) (suc k) all within = all_at p xs k (second_so (p x) (list_all p xs) all) (omega (arith, within))

both : (a b : Bool) → a ≡ true → b ≡ true → (a && b) ≡ true
both true b e f = f
both false b e f = absurd (true≢false (sym e))

all_of : (p : ℕ → Bool) (xs : List ℕ) → ((k : ℕ) → k < length xs → p (slice_index xs k) ≡ true) → list_all p xs ≡ true
all_of p [] each = refl
all_of p (x ∷ xs) each = both (p x) (list_all p xs) (each 0 (omega arith)) (all_of p xs (λ k within. each (suc k) (omega (arith, within))))

-- ---- flags by a test of the needs

-- the job is placed where the test passes its needs
pub placed_back : (f : List ℕ → Bool) (needs : List (List ℕ)) (i : ℕ) → is_placed (map f needs) i ≡ true
    → (list : List ℕ) × (slice_get needs i ≡ Some list) × (f list ≡ true)
placed_back f [] i h = absurd (true≢false (sym h))
placed_back f (list ∷ rest) zero h = (list, refl, h)
placed_back f (list ∷ rest) (suc i) h = placed_back f rest i h

pub placed_here : (f : List ℕ → Bool) (needs : List (List ℕ)) (i : ℕ) (list : List ℕ) → slice_get needs i ≡ Some list → f list ≡ true
    → is_placed (map f needs) i ≡ true
placed_here f [] i list is h = absurd (none-some list is)
placed_here f (other ∷ rest) zero list is h = subst (λ l. f l ≡ true) (sym (ap (λ o. unwrap_or o other) is)) h
placed_here f (other ∷ rest) (suc i) list is h = placed_here f rest i list is h

-- ---- waves

-- waves below a bound for all of a list
pub record WavesBelow (needs : List (List ℕ)) (list : List ℕ) (bound : ℕ) : Type 0 where
  pub waves : List ℕ
  pub size : length waves ≡ length list
  pub have : (k : ℕ) → k < length list → HasWave needs (slice_index list k) (slice_index waves k)
  pub within : above waves ≤ bound

-- a wave below a bound
pub record WaveBelow (needs : List (List ℕ)) (i bound : ℕ) : Type 0 where
  pub wave : ℕ
  pub below : wave < bound
  pub has : HasWave needs i wave

gather : (needs : List (List ℕ)) (list : List ℕ) (bound : ℕ) → ((k : ℕ) → k < length list → WaveBelow needs (slice_index list k) bound)
    → WavesBelow needs list bound
gather needs [] bound each = record { waves = []; size = refl; have = λ k within. absurd (omega (arith, within)); within = omega arith }
gather needs (j ∷ js) bound each =
    let one = each 0 (omega arith) in
    let rest = gather needs js bound (λ k within. each (suc k) (omega (arith, within))) in
    record {
      waves = one.wave ∷ rest.waves;
      size = ap suc rest.size;
      have = cases one rest;
      within = max_within (one.wave + 1) (above rest.waves) bound (omega (arith, one.below)) rest.within;
    }
  where
    cases : (one : WaveBelow needs j bound) (rest : WavesBelow needs js bound) (k : ℕ) → k < length (j ∷ js)
        → HasWave needs (slice_index (j ∷ js) k) (slice_index (one.wave ∷ rest.waves) k)
    cases one rest zero within = one.has
    cases one rest (suc k) within = rest.have k (omega (arith, within))

-- what is placed in the first so many waves has one of these
pub placed_has : (needs : List (List ℕ)) (k i : ℕ) → is_placed (placed_in needs k) i ≡ true → WaveBelow needs i k
placed_has needs zero i h = absurd (true≢false (sym (placed_back (λ list. false) needs i h).2))
placed_has needs (suc k) i h =
    let found = placed_back (list_all (is_placed (placed_in needs k))) needs i h in
    let waves = gather needs found.0 k (λ q within. placed_has needs k (slice_index found.0 q) (all_at (is_placed (placed_in needs k)) found.0 q found.2 within)) in
    record { wave = above waves.waves; below = omega (arith, waves.within); has = HasWave.wave found.0 waves.waves found.1 waves.size waves.have }

-- what has one of the first so many waves is placed in these
pub has_placed : (needs : List (List ℕ)) (k i w : ℕ) → w < k → HasWave needs i w → is_placed (placed_in needs k) i ≡ true
has_placed needs zero i w below h = absurd (omega (arith, below))
has_placed needs (suc k) i w below (HasWave.wave list waves is size have) =
    placed_here (list_all (is_placed (placed_in needs k))) needs i list is
    (all_of (is_placed (placed_in needs k)) list (λ q within.
    let less = below_above waves q (omega (arith, within, size)) in
    has_placed needs k (slice_index list q) (slice_index waves q) (omega (arith, less, below)) (have q within)))

-- where one wave more places nothing, what has a wave is placed
pub has_placed_all : (needs : List (List ℕ)) (k : ℕ) → ((i : ℕ) → is_placed (placed_in needs (suc k)) i ≡ true → is_placed (placed_in needs k) i ≡ true)
    → (fuel i w : ℕ) → w < fuel → HasWave needs i w → is_placed (placed_in needs k) i ≡ true
has_placed_all needs k still zero i w below h = absurd (omega (arith, below))
has_placed_all needs k still (suc fuel) i w below (HasWave.wave list waves is size have) =
    still i (placed_here (list_all (is_placed (placed_in needs k))) needs i list is
    (all_of (is_placed (placed_in needs k)) list (λ q within.
    let less = below_above waves q (omega (arith, within, size)) in
    has_placed_all needs k still fuel (slice_index list q) (slice_index waves q) (omega (arith, less, below)) (have q within))))

-- ---- a job has one wave

same_list : (a b : List ℕ) → Some a ≡ Some b → a ≡ b
same_list a b e = ap (λ o. unwrap_or o a) e

pub one_wave : (needs : List (List ℕ)) (fuel i w v : ℕ) → w < fuel → HasWave needs i w → HasWave needs i v → w ≡ v
one_wave needs zero i w v below h g = absurd (omega (arith, below))
one_wave needs (suc fuel) i w v below (HasWave.wave list waves is size have) (HasWave.wave other others at count got) =
    let same : list ≡ other = same_list list other (sym is ∙ at) in
    ap above (ext_get_or 0 waves others (size ∙ ap length same ∙ sym count) (λ q within.
    let less = below_above waves q within in
    one_wave needs fuel (slice_index list q) (slice_index waves q) (slice_index others q) (omega (arith, less, below))
    (have q (omega (arith, within, size)))
    (subst (λ l. HasWave needs (slice_index l q) (slice_index others q)) (sym same) (got q (omega (arith, within, size, ap length same, count))))))
