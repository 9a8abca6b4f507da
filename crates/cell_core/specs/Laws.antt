-- What holds of every list of events.
use Rattle.std.specs.Prelude.{ℕ, zero, suc, List, [], ◌∷◌, ◌++◌, ◌+◌, ◌⊎◌, None, Some, is_some, IsSomeAnd, true, false, ◌≡◌, map}
use Rattle.cell_core.specs.declared.event.Event.{Event}
use Rattle.cell_core.specs.declared.event.Event.TheVariants.{Saved}
use Rattle.cell_core.specs.declared.why.Why.{Why}
use Rattle.cell_core.specs.declared.why.Why.TheVariants.{Done, CellError, NotReady, KernelLost, TimedOut, NoIdle, BadPeer}
use Rattle.cell_core.specs.declared.act.Act.{Act}
use Rattle.cell_core.specs.declared.act.Act.TheVariants.{Save}
use Rattle.cell_core.specs.Task.{Task, cell_of}
use Rattle.cell_core.specs.Requests.{after, both_came, reply, is_over, is_fatal, is_passed_in, Standing, standing}
use Rattle.cell_core.specs.Events.{is_broken, is_lost, came, look_since, ack_count}
use Rattle.cell_core.specs.Saves.{Prefix, is_whole, saves, pending_saves, why}
use Rattle.cell_core.specs.Acts.{act_of, heard, has_stopped}

-- Request k stands and isn't over.
pub record IsOpen (task : Task) (k : ℕ) (events : List Event) : Type 0 where
  pub later : List Event
  pub stands : after task k events ≡ Some later
  pub not_over : is_over later ≡ false

-- The first request may come to stand once the kernel is ready and a save was acknowledged; each later one at the
-- acknowledgement that follows the end of the one before, whose reply isn't fatal.
abbrev pub IsFree : Task → ℕ → Event → List Event → Type 0
IsFree task zero event past = both_came (event ∷ past) ≡ true
IsFree task (suc k) event past = (event ≡ Saved) × (is_passed_in (after task k past) ≡ true)

-- The cell is that of the request that comes to stand at the newest event.
pub record IsSent (task : Task) (cell : ℕ) (event : Event) (past : List Event) : Type 0 where
  pub request : ℕ
  pub stands : after task request (event ∷ past) ≡ Some []
  pub cell_is : cell_of task request ≡ cell
  pub free : IsFree task request event past

-- how many cells the saves settle that were asked for, in order
abbrev pub settled_by : Act → List ℕ
settled_by (Save settled) = settled ∷ []
settled_by _ = []

-- how many cells each save settles that was asked for, in order
abbrev pub asked_for : Task → List Event → List ℕ
asked_for task [] = []
asked_for task (event ∷ past) = asked_for task past ++ settled_by (act_of task event past)

-- how many cells each of these saves settles
abbrev pub settles : List Prefix → List ℕ
settles xs = map (λ (p : Prefix). p.settled) xs

-- A request comes to stand at the newest event, and it is the last.
pub record ComesToStand (task : Task) (k : ℕ) (events : List Event) : Type 0 where
  pub last : Standing
  pub stands : standing task events ≡ Some last
  pub request_is : last.request ≡ k
  pub new : last.later ≡ []

-- the cell is that of the request that comes to stand at the newest event, the last
pub record SendsLast (task : Task) (cell : ℕ) (events : List Event) : Type 0 where
  pub request : ℕ
  pub comes : ComesToStand task request events
  pub cell_is : cell_of task request ≡ cell

-- A job that goes on and awaits no save: the kernel is awaited after the first save, or the last request stands, isn't
-- over, and each save before it is acknowledged.
abbrev pub GoesOn : Task → List Event → Type 0
GoesOn task events =
    ((standing task events ≡ None) × (ack_count events ≡ 1))
    ⊎ ((last : Standing) × (standing task events ≡ Some last) × (is_over last.later ≡ false) × (ack_count events ≡ last.request + 1))

-- The saves that were asked for are the first of those that are due, in order, and once the job has stopped they are all.
-- The first, with no cell settled, is asked for before any event.
pub record AsksInOrder (task : Task) (events : List Event) : Type 0 where
  pub rest : List ℕ
  pub all : settles (saves task (heard task events)) ≡ (0 ∷ asked_for task events) ++ rest
  pub whole : has_stopped task (heard task events) ≡ true → rest ≡ []

-- what the save after the newest event settles, and that it is the first that is due
pub record IsAskedFor (task : Task) (settled : ℕ) (events : List Event) : Type 0 where
  pub first : Prefix
  pub others : List Prefix
  pub due : pending_saves task events ≡ first ∷ others
  pub settles_it : first.settled ≡ settled

-- the cause stands, and each save that is due is acknowledged
pub record StopsBy (task : Task) (cause : Why) (events : List Event) : Type 0 where
  pub cause_is : why task events ≡ Some cause
  pub settled_all : pending_saves task events ≡ []

-- What a cause says of the events that it stops. The plan is executed, a stream broke, or a look was done after a loss; no
-- request stands at the start deadline; else the last request is over with a fatal reply, has a reply and isn't over, or has
-- no reply.
abbrev pub IsCausedBy : Why → Task → List Event → Type 0
IsCausedBy Done task events = is_whole task (standing task events) ≡ true
IsCausedBy CellError task events = IsSomeAnd (standing task events) (λ last. (is_over last.later ≡ true) × (is_fatal last.later ≡ true))
IsCausedBy NotReady task events = standing task events ≡ None
IsCausedBy KernelLost task events = look_since is_lost events ≡ true
IsCausedBy TimedOut task events = IsSomeAnd (standing task events) (λ last. reply last.later ≡ None)
IsCausedBy NoIdle task events = IsSomeAnd (standing task events) (λ last. (is_some (reply last.later) ≡ true) × (is_over last.later ≡ false))
IsCausedBy BadPeer task events = came is_broken events ≡ true
