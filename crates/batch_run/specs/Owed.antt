-- What is still to be told to the jobs of a run, and what they stand for by then.
use Rattle.std.specs.Prelude.{◌≡◌, ◌==◌, ℕ, zero, suc, Bool, true, false, not, if◌then◌else◌, List, Option, Some, Result, Ok, Err, slice_get, take}
use Rattle.nb_model.specs.declared.notebook.Notebook.{Notebook}
use Rattle.words.specs.declared.ask.Ask.{Ask}
use Rattle.world.specs.declared.chan.Chan.{Chan}
use Rattle.world.specs.declared.chan.Chan.TheVariants.{Iopub}
use Rattle.world.specs.declared.conn.Conn.{Conn}
use Rattle.world.specs.declared.entry.Entry.{Entry}
use Rattle.world.specs.Places.{place_of}
use Rattle.ready_loop.specs.declared.next.Next.{Next}
use Rattle.ready_loop.specs.declared.next.Next.TheVariants.{Piece}
use Rattle.ready_loop.specs.declared.readiness.Loop.{Loop}
use Rattle.ready_loop.specs.History.{History, conn_on}
use Rattle.ready_loop.specs.Standing.{StandsFor}
use Rattle.ready_loop.specs.States.{begun_at, known_at}
use Rattle.other_jobs.specs.Refused.{RefusedUnread}
use Rattle.job_end.specs.declared.answer.Answer.{Answer}
use Rattle.job_journal.specs.Plot.{Plot}
use Rattle.job_run.specs.declared.job.Job.{Job}
use Rattle.job_run.specs.Beginning.{IsFresh, IsSessionOf}
use Rattle.job_begin.specs.Standing.{IsPlotWith}
use Rattle.job_turns.specs.OwedTo.{OwedTo, StandsOwed, StandsEnded}
use Rattle.job_turns.specs.OwedTo as to
use Rattle.batch_run.specs.declared.slot.Slot.{Slot}
use Rattle.batch_run.specs.declared.slot.Slot.TheVariants.{Waiting, Running, Ended}

-- a number is the first one, or one behind it
abbrev pub is_from : ℕ → ℕ → Bool
is_from zero i = true
is_from (suc n) zero = false
is_from (suc n) (suc i) = is_from n i

-- What is still to be told to the jobs of a run.
pub data Owed : Type 0 where
  none : Owed  -- nothing
  begins : ℕ → Owed  -- the first clock, to all; the connections of the jobs below this number were begun
  first_clock : ℕ → Owed  -- the first clock, to those from this number on
  turn_clock : ℕ → ℕ → Owed  -- the clock of a turn with this moment, to those from the second number on
  piece : Conn → List ℕ → Owed  -- these bytes, to the job of the connection on which they were got
  unknown : Owed  -- nothing is known: memory was refused

-- what is still to be told to the job of a number
abbrev pub owed_to : Owed → ℕ → OwedTo
owed_to none i = to.nothing
owed_to (begins n) i = to.first_clock
owed_to (first_clock n) i = if is_from n i then to.first_clock else to.nothing
owed_to (turn_clock ms n) i = if is_from n i then to.clock ms else to.nothing
owed_to (piece conn bytes) i = if conn.job == i then to.piece conn.chan bytes else to.nothing
owed_to unknown i = to.anything

-- entries may come before it is told: none of the bytes that were just got waits
abbrev pub may_wait : Owed → Bool
may_wait (piece conn bytes) = false
may_wait _ = true

-- the connections of the job of a number were begun, where it runs
abbrev pub has_lines : Owed → ℕ → Bool
has_lines (begins n) i = not (is_from n i)
has_lines _ i = true

-- what is owed after a call: the same, or nothing is known where memory was refused
abbrev pub after : {U E : Type 0} → Result U E → Owed → Owed
after (Ok u) o = o
after (Err e) o = unknown

-- what is owed after a read of the loop, with what the buffer then has: the bytes of a piece
abbrev pub after_read : {E : Type 0} → Result Next E → List ℕ → Owed
after_read (Ok (Piece conn n)) buffer = piece conn (take n buffer)
after_read _ buffer = none

-- what is owed after a turn: its clock, to all
abbrev pub after_turn : {E : Type 0} → Result ℕ E → Owed
after_turn (Ok ms) = turn_clock ms 0
after_turn (Err e) = none

-- what is owed after the connections of a job were begun, or weren't
abbrev pub after_begin : {U E : Type 0} → Result U E → ℕ → Owed
after_begin (Ok u) job = begins (suc job)
after_begin (Err e) job = begins job

-- ---- what a job stands for

-- This stands of each plot that the job of this number can have, with what it asks and with its notebook. Nothing had happened to the job before.
-- The plot has the session and the key that were drawn for the job. Where the job has ended before its kernel was started, it may have any.
pub data Follows (i : ℕ) (a : Ask) (n : Notebook) (before now : List Entry) (stands : Plot → Type 0) : Type 0 where
  in_session : (session key : List ℕ) → IsSessionOf i a.output session key before now
      → ((p : Plot) → IsPlotWith p i a n → IsFresh p before → p.setting.session ≡ session → p.setting.key ≡ key → stands p)
      → Follows i a n before now stands
  in_any : ((p : Plot) → IsPlotWith p i a n → IsFresh p before → stands p) → Follows i a n before now stands

-- A job has ended with this answer by the journal, so long as something is known of it.
abbrev pub EndedOwed : OwedTo → Plot → Answer → List Entry → Type 0
EndedOwed to.anything p answer now = Unit {0}
EndedOwed o p answer now = StandsEnded p answer now

-- the job of a slot stands for the journal but for what it is still to be told
abbrev pub SlotOwes : OwedTo → Plot → Slot → List Entry → Type 0
SlotOwes o p Waiting now = Unit {0}
SlotOwes o p (Running j) now = StandsOwed o p j now
SlotOwes o p (Ended answer) now = EndedOwed o p answer now

-- so does that of each plot to which nothing had happened before
abbrev pub SlotFollows : OwedTo → ℕ → Ask → Notebook → Slot → List Entry → List Entry → Type 0
SlotFollows o i a n slot before now = Follows i a n before now (λ p. SlotOwes o p slot now)

-- While jobs begin, nothing has happened to a job that hasn't begun, where nothing had before.
abbrev pub StaysFresh : OwedTo → ℕ → Ask → List Entry → List Entry → Type 0
StaysFresh to.first_clock i a before now = (p : Plot) → i ≡ p.setting.number → p.ask ≡ a → IsFresh p before → IsFresh p now
StaysFresh o i a before now = Unit {0}

-- ---- the loop

-- the connections of a job that has ended are closed
abbrev pub AreClosed : Loop → ℕ → Type 0
AreClosed l i = (chan : Chan) → begun_at l (place_of (conn_on i chan)) ≡ false

-- its connection for IOPub was begun
abbrev pub IsListening : Loop → ℕ → Type 0
IsListening l i = known_at l (place_of (conn_on i Iopub)) ≡ true

-- The loop stands for the journal, and got nothing on the connections that are refused. Of jobs that run the connections were begun; of
-- those that have ended they are closed.
pub record AreServed (asks : ℕ → Option Ask) (o : Owed) (l : Loop) (slots : List Slot) (now : List Entry) : Type 0 where
  pub history : History
  pub stands : StandsFor l history now
  pub unread : RefusedUnread now
  pub listens : (i : ℕ) (j : Job) → slice_get slots i ≡ Some (Running j) → has_lines o i ≡ true → IsListening l i
  pub closed : (i : ℕ) (a : Ask) (answer : Answer) → asks i ≡ Some a → slice_get slots i ≡ Some (Ended answer) → AreClosed l i

-- the same, so long as something is known
abbrev pub Served : (ℕ → Option Ask) → Owed → Loop → List Slot → List Entry → Type 0
Served asks unknown l slots now = Unit {0}
Served asks o l slots now = AreServed asks o l slots now
