-- Which lists of events a core stands for, by what it holds.
use Rattle.std.specs.Prelude.{ℕ, List, [], ◌∷◌, length, Option, Some, None, Bool, true, false, ◌≡◌, ◌+◌, ◌<◌, ◌⊎◌}
use Rattle.cell_core.specs.declared.event.Event.{Event}
use Rattle.cell_core.specs.declared.event.Event.TheVariants.{Saved}
use Rattle.cell_core.specs.declared.why.Why.{Why}
use Rattle.cell_core.specs.declared.state.State.{State}
use Rattle.cell_core.specs.declared.state.State.TheVariants.{Preparing, Starting, Running, Passing, Closing, Failing, Stopped}
use Rattle.cell_core.specs.declared.machine.Core.{Core}
use Rattle.cell_core.specs.Task.{Task, cell_of}
use Rattle.cell_core.specs.declared.clock.Clock.{Clock}
use Rattle.cell_core.specs.declared.clock.Clock.TheVariants.{Unread}
use Rattle.cell_core.specs.Holds.{awaits, now_of, is_read, is_turned}
use Rattle.cell_core.specs.Deadlines.{deadline, first_deadline, start_deadline, looked_by, is_queued}
use Rattle.cell_core.specs.Saves.{is_stop, why_not_done}
use Rattle.cell_core.specs.Events.{is_ready, is_broken, is_moment, is_looked, is_lost, is_turn_at, came, ever, look_since, since, time, Rising, ack_count}
use Rattle.cell_core.specs.Requests.{after, own, reply, has_idle, is_over, is_passed, is_passed_in}
use Rattle.cell_core.specs.Acts.{has_stopped, heard, failing_at, awaits_saved}

-- the stopping cell of the save last asked for
abbrev pub failing_in : Task → State → Option ℕ
failing_in task (Failing k why) = Some (cell_of task k)
failing_in task (Stopped (Some k)) = Some (cell_of task k)
failing_in task _ = None

-- Each request below k is over and its reply isn't fatal, this came since request k came to stand, and no later one stands.
pub record Reached (task : Task) (k : ℕ) (later : Option (List Event)) (acks : ℕ) (events : List Event) : Type 0 where
  pub below : (j : ℕ) → j < k → is_passed_in (after task j events) ≡ true
  pub here : after task k events ≡ later
  pub above : (j : ℕ) → k < j → after task j events ≡ None
  pub acknowledged : ack_count events ≡ acks

-- Request k stands, and this came since.
pub record Stands (task : Task) (k : ℕ) (later : List Event) (acks : ℕ) (events : List Event) : Type 0 where
  pub planned : k < length task.plan
  pub reached : Reached task k (Some later) acks events
  pub ready : came is_ready events ≡ true

-- What was read of the clock, and whether the kernel was found lost.
pub record Hears (clock : Clock) (lost : Bool) (events : List Event) : Type 0 where
  pub now : time events ≡ now_of clock
  pub read : came is_moment events ≡ is_read clock
  pub turned : ever (is_turn_at 0) events ≡ is_turned clock
  pub lost_is : ever is_lost events ≡ lost
  pub unseen : look_since is_lost events ≡ false
  pub rising : Rising events
  pub unbroken : came is_broken events ≡ false

-- The kernel was started and isn't ready.
pub record IsStarting (task : Task) (clock : Clock) (lost : Bool) (due : Option ℕ) (events : List Event) : Type 0 where
  pub planned : 0 < length task.plan
  pub reached : Reached task 0 None 1 events
  pub ready : came is_ready events ≡ false
  pub hears : Hears clock lost events
  pub until : start_deadline task events ≡ due
  pub calm : looked_by due events ≡ false

-- Before the interrupt the deadline's look is still to come, and after it that look came.
abbrev pub IsAsked : Task → ℕ → ℕ → Bool → List Event → Type 0
IsAsked task k first false events = (is_queued task k first events ≡ false) × ((between : List Event) → since (is_turn_at first) events ≡ Some between → (came is_moment between ≡ false) × (came is_looked between ≡ false))
IsAsked task k first true events = (is_queued task k first events ≡ true) × ((between : List Event) × (since (is_turn_at first) events ≡ Some between) × (came is_looked between ≡ true))

-- Request k stands and isn't over.
pub record IsRunning (task : Task) (clock : Clock) (lost : Bool) (k : ℕ) (fatal : Option Bool) (idle : Bool) (due : Option ℕ) (interrupted : Bool) (events : List Event) : Type 0 where
  pub later : List Event
  pub stands : Stands task k later (k + 1) events
  pub replied : reply later ≡ fatal
  pub idled : has_idle (own later) ≡ idle
  pub on : is_over later ≡ false
  pub hears : Hears clock lost events
  pub until : deadline task (record { request = k; later = later }) events ≡ due
  pub calm : looked_by due events ≡ false
  pub asked : fatal ≡ None → (first : ℕ) → first_deadline task (record { request = k; later = later }) events ≡ Some first → task.times.interrupt ≡ true → IsAsked task k first interrupted events

-- Request k is over, its reply isn't fatal, and its save is not acknowledged.
pub record IsPassing (task : Task) (clock : Clock) (lost : Bool) (k : ℕ) (events : List Event) : Type 0 where
  pub later : List Event
  pub stands : Stands task k later (k + 1) events
  pub passed : is_passed later ≡ true
  pub hears : Hears clock lost events

-- The last request is over, its save is acknowledged, and that of the whole notebook is not.
pub record IsClosing (task : Task) (k : ℕ) (events : List Event) : Type 0 where
  pub later : List Event
  pub stands : Stands task k later (k + 2) events
  pub last : k + 1 ≡ length task.plan
  pub passed : is_passed later ≡ true
  pub more : cell_of task k + 1 < task.cells

-- What stops the job while request k stands.
pub record Fails (task : Task) (k : ℕ) (later : List Event) (why : Why) (events : List Event) : Type 0 where
  pub not_passed : is_passed later ≡ false
  pub cause : why_not_done task (Some (record { request = k; later = later })) events ≡ Some why
  pub stops : is_stop why ≡ true

-- The job stops while request k stands, and the save is not acknowledged.
pub record IsFailing (task : Task) (k : ℕ) (why : Why) (events : List Event) : Type 0 where
  pub later : List Event
  pub stands : Stands task k later (k + 1) events
  pub fails : Fails task k later why events

-- The job has stopped.
pub record HasStopped (task : Task) (failing : Option ℕ) (events : List Event) : Type 0 where
  pub stopped : has_stopped task events ≡ true
  pub names : failing_at task events ≡ failing_in task (Stopped failing)

-- The state is right for these events.
abbrev pub IsAt : Task → Clock → Bool → State → List Event → Type 0
IsAt task clock lost Preparing events = (events ≡ []) × (clock ≡ Unread) × (lost ≡ false)
IsAt task clock lost (Starting due) events = IsStarting task clock lost due events
IsAt task clock lost (Running r) events = IsRunning task clock lost r.at r.fatal r.idle r.due r.interrupted events
IsAt task clock lost (Passing k) events = IsPassing task clock lost k events
IsAt task clock lost Closing events = ((length task.plan ≡ 0) × (0 < task.cells) × (events ≡ Saved ∷ [])) ⊎ ((k : ℕ) × IsClosing task k events)
IsAt task clock lost (Failing k why) events = IsFailing task k why events
IsAt task clock lost (Stopped failing) events = HasStopped task failing events

-- what the core is to run
abbrev pub task_of : Core → Task
task_of core = record { plan = core.plan; cells = core.cells; times = core.limits }

-- a save was asked for last, and is not acknowledged
abbrev pub awaits_saved_of : Core → Bool
awaits_saved_of core = awaits core.state

-- The core stands for these events: its state is right for those up to the stop.
pub record StandsFor (core : Core) (events : List Event) : Type 0 where
  pub so : IsAt (task_of core) core.clock core.lost core.state (heard (task_of core) events)
  pub awaited : awaits_saved_of core ≡ awaits_saved (task_of core) events
