-- Waves of jobs that need each other (the longest-path layering of an acyclic graph; least by Mirsky's theorem).
use Rattle.std.specs.Prelude.{◌≡◌, ◌<◌, ◌≤◌, ℕ, ◌+◌, max, List, [], ◌∷◌, Some, Contains, slice_get, slice_index, length}
use Rattle.std.specs.List.{AllByRecursion}

-- one more than the greatest of these, and 0 where there is none
abbrev pub above : List ℕ → ℕ
above [] = 0
above (w ∷ ws) = max (w + 1) (above ws)

-- The job has this wave: 0 where it needs nothing, and else one more than the greatest wave of those that it needs.
pub data HasWave (needs : List (List ℕ)) : ℕ → ℕ → Type 0 where
  wave : {i : ℕ} (list waves : List ℕ) → slice_get needs i ≡ Some list → length waves ≡ length list
      → ((k : ℕ) → k < length list → HasWave needs (slice_index list k) (slice_index waves k)) → HasWave needs i (above waves)

-- how many jobs stand in these waves
abbrev pub job_count : List (List ℕ) → ℕ
job_count [] = 0
job_count (jobs ∷ waves) = length jobs + job_count waves

-- a wave of these has the job
pub record IsIn (waves : List (List ℕ)) (w i : ℕ) : Type 0 where
  pub jobs : List ℕ
  pub is : slice_get waves w ≡ Some jobs
  pub has : Contains jobs i

-- the numbers are at least this one, and each is greater than the one before
abbrev pub IncreaseFrom : ℕ → List ℕ → Type 0
IncreaseFrom low [] = Unit {0}
IncreaseFrom low (i ∷ is) = (low ≤ i) × IncreaseFrom (i + 1) is

-- each number is greater than the one before
abbrev pub Increase : List ℕ → Type 0
Increase numbers = IncreaseFrom 0 numbers

-- These are the waves of jobs that need so: in wave w stand, in their order, just the jobs that have it, and each job has one.
pub record AreWaves (needs waves : List (List ℕ)) : Type 0 where
  pub ordered : AllByRecursion Increase waves
  pub right : (w i : ℕ) → IsIn waves w i → HasWave needs i w
  pub all : (w i : ℕ) → HasWave needs i w → IsIn waves w i
  pub every : (i : ℕ) → i < length needs → (w : ℕ) × HasWave needs i w

-- the job is the first that has no wave: it needs itself, over others or at once, or a job that does
pub record IsFirstInCycle (needs : List (List ℕ)) (job : ℕ) : Type 0 where
  pub is_job : job < length needs
  pub none : (w : ℕ) → HasWave needs job w → ⊥
  pub before : (i : ℕ) → i < job → (w : ℕ) × HasWave needs i w

-- an order in which each job comes after all that it needs, as the number of its turn
abbrev pub IsOrder : List (List ℕ) → (ℕ → ℕ) → Type 0
IsOrder needs turn = (i j : ℕ) (list : List ℕ) → slice_get needs i ≡ Some list → Contains list j → turn j < turn i
