-- Which jobs can be placed in the first waves, and in the next one.
use Rattle.std.specs.Prelude.{ℕ, ◌+◌, zero, suc, Bool, true, false, List, [], ◌∷◌, ◌++◌, ◌&&◌, not, if◌then◌else◌, map, slice_get, unwrap_or}
use Rattle.std.specs.List.{list_all}

-- the job is among those that are placed
abbrev pub is_placed : List Bool → ℕ → Bool
is_placed placed job = unwrap_or (slice_get placed job) false

-- no job is placed
abbrev pub none_placed : List (List ℕ) → List Bool
none_placed needs = map (λ list. false) needs

-- the jobs of which all needs are placed
abbrev pub place_more : List (List ℕ) → List Bool → List Bool
place_more needs placed = map (list_all (is_placed placed)) needs

-- of these jobs, from that index on, those that are placed now and weren't among all before
abbrev pub anew_from : List Bool → ℕ → List Bool → List ℕ
anew_from before i [] = []
anew_from before i (b ∷ bs) =
    if b && not (is_placed before i) then i ∷ anew_from before (i + 1) bs else anew_from before (i + 1) bs

-- the jobs that are placed now and weren't before
abbrev pub placed_anew : ℕ → List Bool → List Bool → List ℕ
placed_anew i before now = anew_from before i now

-- the first of these jobs, from that index on, that isn't placed
abbrev pub first_unplaced : ℕ → List Bool → ℕ
first_unplaced i [] = i
first_unplaced i (b ∷ bs) = if b then first_unplaced (i + 1) bs else i

-- the jobs that are placed in the first so many waves
abbrev pub placed_in : List (List ℕ) → ℕ → List Bool
placed_in needs zero = none_placed needs
placed_in needs (suc k) = place_more needs (placed_in needs k)

-- the wave with this number
abbrev pub wave_at : List (List ℕ) → ℕ → List ℕ
wave_at needs k = placed_anew 0 (placed_in needs k) (placed_in needs (suc k))

-- the first so many waves
abbrev pub first_waves : List (List ℕ) → ℕ → List (List ℕ)
first_waves needs zero = []
first_waves needs (suc k) = first_waves needs k ++ wave_at needs k ∷ []
