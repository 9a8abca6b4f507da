-- How long a wait may last, and what waiting adds to a journal, its newest entry first.
use Rattle.std.specs.Prelude.{◌≡◌, ◌<◌, ◌≤◌, ◌+◌, ◌-◌, ℕ, List, ◌∷◌, Bool, true, false, Option, Some, None, Result, Ok, Err, min, ◌/◌}
use Rattle.world.specs.declared.conn.Conn.{Conn}
use Rattle.world.specs.declared.did.Did.{Did}
use Rattle.world.specs.declared.did.Did.TheVariants.{Done, Failed}
use Rattle.world.specs.declared.entry.Entry.{Entry}
use Rattle.world.specs.declared.entry.Entry.TheVariants as made
use Rattle.world.specs.declared.reports.Reports.{Reports}
use Rattle.world.specs.Moments.{Since}
use Rattle.world.specs.Counts.{Counts, NetCause, WaitCause}
use Rattle.world.specs.Places.{Status, status, time, is_reported}
use Rattle.ready_loop.specs.declared.fault.LoopFault.{LoopFault}
use Rattle.ready_loop.specs.declared.fault.LoopFault.TheVariants.{NetFault, Spent}
use Rattle.ready_loop.specs.declared.readiness.Loop.{Loop}
use Rattle.ready_loop.specs.History.{History, after_names}
use Rattle.ready_loop.specs.Offers.{LookMoment, IsFailureOf, Connects, is_looked}
use Rattle.ready_loop.specs.Standing.{StandsFor}
use Rattle.ready_loop.specs.Link.{wait_link}
use Rattle.ready_loop.specs.States.{IsCalm, MapsBelow}

-- what a wait may last at most: 500 ms, up to the moment that was handed in, or up to a moment at which
-- a refused connection is begun again; one that is past counts as 0
pub data Timer (places : ℕ) (due : Option ℕ) (last : ℕ) (refused : ℕ → Option ℕ) : ℕ → Type 0 where
  most : Timer places due last refused 500
  handed : (moment : ℕ) → due ≡ Some moment → Timer places due last refused (moment - last)
  connect : (p at : ℕ) → p < places → refused p ≡ Some at → Timer places due last refused (at + 200 - last)

-- the least of these, with the connections at so many places
pub record IsLeast (places : ℕ) (due : Option ℕ) (last : ℕ) (refused : ℕ → Option ℕ) (ms : ℕ) : Type 0 where
  pub one : Timer places due last refused ms
  pub least : (n : ℕ) → Timer places due last refused n → ms ≤ n

-- the milliseconds to the next connect of a connection, at most 500
abbrev pub connect_wait : Option ℕ → ℕ → ℕ
connect_wait None last = 500
connect_wait (Some at) last = min (at + 200 - last) 500

-- the limit of a wait: 0 where a connection is awake, and else the least of these
pub record IsLimit (due : Option ℕ) (last : ℕ) (awake : ℕ → Bool) (refused : ℕ → Option ℕ) (ms : ℕ) : Type 0 where
  pub awaits : (p : ℕ) → p < 64 → awake p ≡ true → ms ≡ 0
  pub rests : ((p : ℕ) → p < 64 → awake p ≡ false) → IsLeast 64 due last refused ms

-- a connection that needs nothing before a wait: no call of it failed, it gave bytes 64 times where it is
-- awake, and where it is open to writing all that was queued was put
pub record IsServed (queued : List ℕ) (s : Status) : Type 0 where
  pub sound : s.failed ≡ false
  pub drained : s.awake ≡ true → 64 ≤ s.count
  pub sent : s.writable ≡ true → s.put ≡ queued

-- before a wait no connection needs anything
abbrev pub AllServed : History → List Entry → Type 0
AllServed h past = (p : ℕ) → p < 64 → IsServed (h.queued p) (status p past)

-- no refused connection is due to be begun again
abbrev pub NoneDue : List Entry → Type 0
NoneDue past = (p at : ℕ) → p < 64 → (status p past).refused ≡ Some at → time past < at + 200

-- a wait of a turn
pub record IsTurnWait (due : Option ℕ) (h : History) (ms : ℕ) (past : List Entry) : Type 0 where
  pub limit : IsLimit due (time past) (λ p. (status p past).awake) (λ p. (status p past).refused) ms
  pub served : AllServed h past

-- the one entry of such a wait
pub record Waits (due : Option ℕ) (h : History) (did : Did) (before after : List Entry) : Type 0 where
  pub ms : ℕ
  pub reports : Reports
  pub is : after ≡ made.Waited ms reports did ∷ before
  pub rule : IsTurnWait due h ms before

-- a wait that was done, and directly behind it the clock
pub record WaitsThenLooks (due : Option ℕ) (h : History) (now : ℕ) (before after : List Entry) : Type 0 where
  pub past : List Entry
  pub waits : Waits due h Done before past
  pub is : after ≡ made.Moment now ∷ past

-- the entries of a turn, by its answer
abbrev pub TurnCame : Option ℕ → Result ℕ LoopFault → History → List Entry → List Entry → Type 0
TurnCame due (Ok now) h before after = WaitsThenLooks due h now before after
TurnCame due (Err (NetFault None)) h before after = Waits due h Failed before after
TurnCame due (Err (NetFault (Some conn))) h before after = ⊥
TurnCame due (Err Spent) h before after = after ≡ before

-- one wait, after which a loop stands for each journal for which it stood before
pub record WaitCame (ms : ℕ) (did : Did) (old new : Loop) (before after : List Entry) : Type 0 where
  pub reports : Reports
  pub is : after ≡ made.Waited ms reports did ∷ before
  pub stands : (h : History) → StandsFor old h before → StandsFor new h after
  pub links : MapsBelow 64 (λ p. wait_link did (is_reported p reports.ready)) old.links new.links

-- the counts after a turn: of a wait and of the clock, and a fault only where that of the wire rose
abbrev pub TurnCounts : Result ℕ LoopFault → Counts → Counts → Type 0
TurnCounts (Ok now) old new = WaitCause old (record new { last = old.last }) ⊥ × (new.last ≡ now)
TurnCounts (Err (NetFault None)) old new = WaitCause old new (Unit {0})
TurnCounts (Err (NetFault (Some conn))) old new = ⊥
TurnCounts (Err Spent) old new = new ≡ old

-- a turn took a loop from each journal for which it stood to one for which it stands then
pub record Turned (due : Option ℕ) (result : Result ℕ LoopFault) (last : ℕ) (old new : Loop) (before after : List Entry) : Type 0 where
  pub so : (h : History) → StandsFor old h before → StandsFor new h after × TurnCame due result h before after
  -- where nothing was due before it, nothing is at its wait
  pub calm : (h : History) → StandsFor old h before → IsCalm last old → NoneDue before

-- the entries of a last look up to its wait: each connection of these jobs that was refused was begun again,
-- nothing that could go on is left, and then a wait that does not last
pub record LooksThenWaits (jobs : List Bool) (calm : Type 0) (h : History) (did : Did) (before after : List Entry) : Type 0 where
  pub past : List Entry
  pub looks : Since (LookMoment jobs h) before past
  pub begins : (p at : ℕ) → p < 64 → is_looked jobs (p / 4) ≡ true → (status p before).refused ≡ Some at
      → Connects p before past
  pub served : AllServed h past
  -- where nothing was due before it, nothing is at its wait
  pub none_due : calm → NoneDue past
  pub reports : Reports
  pub is : after ≡ made.Waited 0 reports did ∷ past

-- the entries of a last look up to a failed call of a connection
pub record LooksUntil (jobs : List Bool) (h : History) (conn : Conn) (before after : List Entry) : Type 0 where
  pub looks : Since (LookMoment jobs h) before after
  pub failure : IsFailureOf conn after

-- the entries of a last look, by its answer
abbrev pub LookCame : List Bool → Type 0 → Result (List Bool) LoopFault → History → List Entry → List Entry → Type 0
LookCame jobs calm (Ok names) h before after = LooksThenWaits jobs calm h Done before after
LookCame jobs calm (Err (NetFault None)) h before after = LooksThenWaits jobs calm h Failed before after
LookCame jobs calm (Err (NetFault (Some conn))) h before after = LooksUntil jobs h conn before after
LookCame jobs calm (Err Spent) h before after = after ≡ before

-- a last look took a loop from each journal for which it stood to one for which it stands then
pub record Looked (jobs : List Bool) (result : Result (List Bool) LoopFault) (last : ℕ) (old new : Loop) (before after : List Entry) : Type 0 where
  pub so : (h : History) → StandsFor old h before
      → StandsFor new (after_names result h) after × LookCame jobs (IsCalm last old) result h before after

-- the counts after a last look
abbrev pub LookCounts : Result (List Bool) LoopFault → Counts → Counts → Type 0
LookCounts (Ok names) old new = WaitCause old new ⊥
LookCounts (Err (NetFault None)) old new = WaitCause old new (Unit {0})
LookCounts (Err (NetFault (Some conn))) old new = NetCause old new (Unit {0})
LookCounts (Err Spent) old new = new ≡ old

-- how many waits are left after a last look
abbrev pub left_after : Result (List Bool) LoopFault → ℕ → ℕ
left_after (Ok names) left = left - 1
left_after (Err (NetFault None)) left = left - 1
left_after (Err (NetFault (Some conn))) left = left
left_after (Err Spent) left = left

-- some connection is awake
pub record SomeAwake (past : List Entry) : Type 0 where
  pub place : ℕ
  pub low : place < 64
  pub awake : (status place past).awake ≡ true
