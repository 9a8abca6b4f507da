-- What beginning and closing a job's connections adds to a journal, its newest entry first.
use Rattle.std.specs.Prelude.{◌≡◌, ◌||◌, ◌+◌, ◌*◌, ◌<◌, ◌≤◌, ℕ, List, [], ◌∷◌, Bool, true, false, Option, Some, None, Result, Ok, Err, slice_get, slice_index}
use Rattle.std.proofs.Common.{◌≢◌}
use Rattle.world.specs.declared.chan.Chan.{Chan}
use Rattle.world.specs.declared.chan.Chan.TheVariants.{Shell, Control, Iopub, Heart}
use Rattle.world.specs.declared.conn.Conn.{Conn}
use Rattle.world.specs.declared.connected.Connected.{Connected}
use Rattle.world.specs.declared.connected.Connected.TheVariants as connected
use Rattle.world.specs.declared.entry.Entry.{Entry}
use Rattle.world.specs.declared.entry.Entry.TheVariants as made
use Rattle.world.specs.Places.{place_of, is_at, status}
use Rattle.ready_loop.specs.declared.fault.LoopFault.{LoopFault}
use Rattle.ready_loop.specs.declared.fault.LoopFault.TheVariants.{NetFault, Spent}
use Rattle.ready_loop.specs.declared.readiness.Loop.{Loop}
use Rattle.ready_loop.specs.History.{History, conn_on, chans}
use Rattle.ready_loop.specs.Standing.{StandsFor}
use Rattle.ready_loop.specs.Queues.{held_in}
use Rattle.ready_loop.specs.States.{known_at, begun_at, begun_in, HoldsForKnown, IsOfferedAt}

-- the port of a channel, of those for shell, iopub, stdin, control and heartbeat
abbrev pub port_of : List ℕ → Chan → ℕ
port_of ports Shell = slice_index ports 0
port_of ports Iopub = slice_index ports 1
port_of ports Control = slice_index ports 3
port_of ports Heart = slice_index ports 4

-- the newest entry begins a connection that was not begun, or was closed
abbrev pub BeginMoment : History → List Entry → Type 0
BeginMoment h [] = ⊥
BeginMoment h (made.Connected conn port how ∷ past) = (status (place_of conn) past).begun ≡ false
BeginMoment h (_ ∷ past) = ⊥

-- connects of a job's channels, in this order, each on its port, up to one that fails; with the answer
pub data Begins {U : Type 0} (job : ℕ) (ports : List ℕ) : List Chan → Result U LoopFault → List Entry → List Entry → Type 0 where
  done : (u : U) (past : List Entry) → Begins job ports [] (Ok u) past past
  more : (chan : Chan) (rest : List Chan) (how : Connected) (result : Result U LoopFault) (before after : List Entry)
      → how ≢ connected.Failed
      → Begins job ports rest result (made.Connected (conn_on job chan) (port_of ports chan) how ∷ before) after
      → Begins job ports (chan ∷ rest) result before after
  failed : (chan : Chan) (rest : List Chan) (before : List Entry)
      → Begins job ports (chan ∷ rest) (Err (NetFault (Some (conn_on job chan)))) before
      (made.Connected (conn_on job chan) (port_of ports chan) connected.Failed ∷ before)

-- one connect, with its answer
abbrev pub BeginsOne : {U : Type 0} → Conn → ℕ → Result U LoopFault → List Entry → List Entry → Type 0
BeginsOne conn port (Ok u) before after = (how : Connected) × (how ≢ connected.Failed) × (after ≡ made.Connected conn port how ∷ before)
BeginsOne conn port (Err (NetFault (Some c))) before after = (c ≡ conn) × (after ≡ made.Connected conn port connected.Failed ∷ before)
BeginsOne conn port (Err (NetFault None)) before after = ⊥
BeginsOne conn port (Err Spent) before after = ⊥

-- no connect was called for any connection of a job
pub record IsFresh (job : ℕ) (l : Loop) : Type 0 where
  pub each : (chan : Chan) → known_at l (place_of (conn_on job chan)) ≡ false

-- a connect was called for each connection of a job, that of the heartbeat where it is wanted
pub record IsBegun (job : ℕ) (heart : Bool) (l : Loop) : Type 0 where
  pub shell : known_at l (place_of (conn_on job Shell)) ≡ true
  pub control : known_at l (place_of (conn_on job Control)) ≡ true
  pub iopub : known_at l (place_of (conn_on job Iopub)) ≡ true
  pub heart_too : heart ≡ true → known_at l (place_of (conn_on job Heart)) ≡ true

-- the newest entry closes a connection that was begun
abbrev pub CloseMoment : History → List Entry → Type 0
CloseMoment h [] = ⊥
CloseMoment h (made.Closed conn ∷ past) = (status (place_of conn) past).begun ≡ true
CloseMoment h (_ ∷ past) = ⊥

-- the entry that closes a connection, where one is to be closed
abbrev pub closing : Bool → Conn → List Entry → List Entry
closing true conn past = made.Closed conn ∷ past
closing false conn past = past

-- the journal after each of these channels was closed that was begun, in this order
abbrev pub closings : ℕ → (Chan → Bool) → List Chan → List Entry → List Entry
closings job begun [] past = past
closings job begun (chan ∷ rest) past = closings job begun rest (closing (begun chan) (conn_on job chan) past)

-- the entries of the close of one connection
abbrev pub ClosesOne : Conn → Loop → List Entry → List Entry → Type 0
ClosesOne conn old before after = after ≡ closing (begun_in (slice_get old.links (place_of conn))) conn before

-- the entries of a close: one for each connection of the job for which connect was called since its last close
pub record CloseCame (job : ℕ) (old : Loop) (before after : List Entry) : Type 0 where
  pub so : (h : History) → StandsFor old h before
      → after ≡ closings job (λ chan. (status (place_of (conn_on job chan)) before).begun) (chans true) before

-- a place is of this job
abbrev pub is_of_job : ℕ → ℕ → Bool
is_of_job job p = is_at p (conn_on job Heart) || (is_at p (conn_on job Iopub) || (is_at p (conn_on job Control) || is_at p (conn_on job Shell)))

-- what holds only of a connection that was begun and not closed, after some were closed, by whether it is one of them
abbrev pub unless_closed : Bool → Bool → Bool
unless_closed true was = false
unless_closed false was = was

-- a close of the connections at these places closes no other, begins none, and queues nothing on one that was not begun
pub record Closes (at : ℕ → Bool) (old new : Loop) : Type 0 where
  pub known : (p : ℕ) → known_at new p ≡ known_at old p
  pub begun : (p : ℕ) → begun_at new p ≡ unless_closed (at p) (begun_at old p)
  pub holds : HoldsForKnown old → HoldsForKnown new

-- only what is kept of the connections of a job may have changed
pub record OnlyOfJob (job : ℕ) (old new : Loop) : Type 0 where
  pub links : (p : ℕ) → is_of_job job p ≡ false → slice_get new.links p ≡ slice_get old.links p
  pub held : (p : ℕ) → is_of_job job p ≡ false → held_in (slice_get new.queues p) ≡ held_in (slice_get old.queues p)
  pub left : new.left ≡ old.left

-- nothing is to be done before a wait at any place of a job
pub record IsJobOffered (job last : ℕ) (l : Loop) : Type 0 where
  pub each : (p : ℕ) → 4 * job ≤ p → p < 4 * job + 4 → IsOfferedAt p last l
