-- What is kept of the connections of the jobs of a run.
use Rattle.std.specs.Prelude.{◌≡◌, ◌<◌, ◌≤◌, ◌+◌, ◌*◌, ℕ, List, Bool, true, false, Some, slice_get, slice_set}
use Rattle.world.specs.declared.conn.Conn.{Conn}
use Rattle.world.specs.Counts.{Counts, Rose}
use Rattle.world.specs.Places.{place_of}
use Rattle.ready_loop.specs.declared.readiness.Loop.{Loop}
use Rattle.ready_loop.specs.Begins.{OnlyOfJob, is_of_job}
use Rattle.ready_loop.specs.States.{IsDrained, IsSound, begun_at, failed_at, known_at, open_left, reads_left, waits_left}
use Rattle.ready_loop.specs.Wires.{ports_in}
use Rattle.batch_run.specs.declared.fault.Fault.{Fault}
use Rattle.batch_run.specs.declared.fault.Fault.TheVariants as fault

-- no connect was called for a connection of this job or of one after it
pub record IsFreshFrom (job : ℕ) (l : Loop) : Type 0 where
  pub each : (p : ℕ) → 4 * job ≤ p → known_at l p ≡ false

-- a connect was called for each of these connections
pub record AreBegun (begun : List Bool) (l : Loop) : Type 0 where
  pub each : (p : ℕ) → slice_get begun p ≡ Some true → known_at l p ≡ true

-- no place is among these
pub record NoPlaces (places : List Bool) : Type 0 where
  pub each : (p : ℕ) → p < 64 → slice_get places p ≡ Some false

-- no call of a connection of another job than this one has failed
pub record IsSoundBut (job : ℕ) (l : Loop) : Type 0 where
  pub each : (p : ℕ) → p < 64 → is_of_job job p ≡ false → failed_at l p ≡ false

-- a connection of this job is begun, and no call of one of another job has failed
pub record IsBroken (job : ℕ) (l : Loop) : Type 0 where
  pub few : job < 16
  pub conn : Conn
  pub own : conn.job ≡ job
  pub begun : begun_at l (place_of conn) ≡ true
  pub but : IsSoundBut job l

-- calls leave as many waits and the same ports, begin no connection, and leave no more of them open or to be read
pub record IsKept (old new : Loop) : Type 0 where
  pub waits : waits_left new ≡ waits_left old
  pub ports : ports_in new ≡ ports_in old
  pub known : (p : ℕ) → known_at new p ≡ known_at old p
  pub linked : open_left new ≤ open_left old
  pub reads : reads_left new ≤ reads_left old
  pub drained : IsDrained old → IsDrained new
  pub sound : IsSound old → IsSound new

-- so do calls that are for a job alone: nothing is changed of the connections of another
pub record IsLeft (job : ℕ) (old new : Loop) : Type 0 where
  pub only : OnlyOfJob job old new
  pub kept : IsKept old new

-- each connection that was begun and not closed is so still, and no other
abbrev pub StaysBegun : Loop → Loop → Type 0
StaysBegun old new = (p : ℕ) → begun_at new p ≡ begun_at old p

-- what a fault leaves of the connections: one of the job that it names has failed, or none
abbrev pub LeftBy : Fault → Loop → Type 0
LeftBy (fault.OfJob job) l = IsBroken job l
LeftBy fault.OfAll l = IsSound l
LeftBy fault.Spent l = IsSound l

-- the jobs that a fault doesn't name go on
abbrev pub goes_on : Fault → Bool
goes_on (fault.OfJob job) = true
goes_on fault.OfAll = false
goes_on fault.Spent = false

-- why a fault ends jobs: a call of the network has failed; or this, where no wait is left
abbrev pub FaultCause : Counts → Counts → Type 0 → Fault → Type 0
FaultCause old new none_left (fault.OfJob job) = Rose old.net new.net
FaultCause old new none_left fault.OfAll = Rose old.net new.net
FaultCause old new none_left fault.Spent = none_left

-- the places of the connections that were begun, after those of a job were
abbrev pub mark_job : ℕ → Bool → List Bool → List Bool
mark_job job heart begun =
    slice_set (slice_set (slice_set (slice_set begun (4 * job) true) (4 * job + 1) true) (4 * job + 2) true) (4 * job + 3) heart
