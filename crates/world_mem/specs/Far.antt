-- What the kernels of a world in memory answer, each of its job.
use Rattle.std.specs.Prelude.{◌≡◌, ℕ, List, Bool, true, false, Option, Some, None, slice_get, slice_set, unwrap_or, length}
use Rattle.world.specs.declared.chan.Chan.{Chan}
use Rattle.world.specs.declared.conn.Conn.{Conn}
use Rattle.world.specs.declared.did.Did.{Did}
use Rattle.world.specs.declared.did.Did.TheVariants as did
use Rattle.world.specs.Calls.{Call, Ticked, StandsAfter}
use Rattle.world.specs.Kernel.{Given, is_something}

-- what a kernel answers, and this where there is none
abbrev pub answer_of : {K A : Type 0} → Option K → A → (K → A) → A
answer_of None none answer = none
answer_of (Some kernel) none answer = answer kernel

-- what the kernel of a job answers, and this where the job has none
abbrev pub at_job : {K A : Type 0} → List K → ℕ → A → (K → A) → A
at_job kernels job none answer = answer_of (slice_get kernels job) none answer

-- a kernel is another one now, related so, and no other has changed
abbrev pub Changes : {K : Type 0} → Option K → List K → List K → ℕ → (K → K → Type 0) → Type 0
Changes None old new job R = new ≡ old
Changes {K} (Some before) old new job R = (after : K) × (new ≡ slice_set old job after) × R before after

-- the kernel of a job, where it has one, is another one now, related so, and no other has changed
abbrev pub Serves : {K : Type 0} → List K → List K → ℕ → (K → K → Type 0) → Type 0
Serves old new job R = Changes (slice_get old job) old new job R

-- the child of a job was started and not ended since
abbrev pub is_started : List Bool → ℕ → Bool
is_started started job = unwrap_or (slice_get started job) false

-- which children are started after a start
abbrev pub started_by : Did → ℕ → List Bool → List Bool
started_by did.Done job started = slice_set started job true
started_by did.Failed job started = started

-- there is something to read on a connection, bytes or the end
abbrev pub is_ready : {K : Type 0} → (K → Chan → ℕ → ℕ → Given) → List K → ℕ → Conn → Bool
is_ready gives kernels clock conn = at_job kernels conn.job false (λ k. is_something (gives k conn.chan clock 1))

-- the call reaches no kernel, or serves the kernel of its job
abbrev pub ServesUnless : {K : Type 0} → Bool → List K → List K → ℕ → (K → K → Type 0) → Type 0
ServesUnless true old new job R = new ≡ old
ServesUnless false old new job R = Serves old new job R

-- a started kernel was brought to a moment, and one that is not started is as it was
abbrev pub TickedIf : {K : Type 0} → (K → List Call → Type 0) → Bool → ℕ → K → K → Type 0
TickedIf stands true now before after = StandsAfter (stands before) (stands after) (Ticked now)
TickedIf stands false now before after = after ≡ before

-- each started kernel was brought to a moment, and no other has changed
pub record Ticks {K : Type 0} (stands : K → List Call → Type 0) (started : List Bool) (now : ℕ) (old new : List K) : Type 0 where
  pub size : length new ≡ length old
  pub each : (job : ℕ) (before after : K) → slice_get old job ≡ Some before → slice_get new job ≡ Some after
      → TickedIf stands (is_started started job) now before after

-- what holds of a kernel that took bytes; where memory for them was refused nothing is known of it
abbrev pub TookIf : Did → Type 0 → Type 0
TookIf did.Done took = took
TookIf did.Failed took = Unit {0}
