-- The saves of a job, and why it stops (nbclient; papermill, which saves after each cell).
use Rattle.std.specs.Prelude.{ℕ, zero, suc, List, [], ◌∷◌, ◌++◌, length, drop, Option, Some, None, is_some, is_none, Bool, true, false, if◌then◌else◌, ◌&&◌, ◌||◌, not, nat_lt, ◌==◌, ◌+◌}
use Rattle.cell_core.specs.declared.event.Event.{Event}
use Rattle.cell_core.specs.declared.why.Why.{Why}
use Rattle.cell_core.specs.declared.why.Why.TheVariants.{Done, CellError, NotReady, KernelLost, TimedOut, NoIdle, BadPeer}
use Rattle.cell_core.specs.Task.{Task, cell_of}
use Rattle.cell_core.specs.Events.{is_broken, is_lost, is_turn_at, came, look_since, ack_count}
use Rattle.cell_core.specs.Deadlines.{idle_ms, replied_at, first_deadline, second_deadline, is_queued, looked_by, start_deadline}
use Rattle.cell_core.specs.Requests.{after, reply, is_over, is_fatal, is_passed, is_passed_in, Standing, standing}

-- A save settles the cells below an index; that of a stop names the last of them as the stopping cell.
pub record Prefix : Type 0 where
  pub settled : ℕ
  pub stopping_cell : Option ℕ

-- after preparation
abbrev pub after_preparation : Prefix
after_preparation = record { settled = 0; stopping_cell = None }

-- after each request below k that is over and whose reply isn't fatal, in order
abbrev pub passes : Task → ℕ → List Event → List Prefix
passes task zero events = []
passes task (suc k) events = passes task k events ++ (if is_passed_in (after task k events) then record { settled = cell_of task k + 1; stopping_cell = None } ∷ [] else [])

-- the save of a stop while this request stands: none where it is over with a reply that isn't fatal
abbrev pub stop_at : Task → Standing → List Prefix
stop_at task last = if is_passed last.later then [] else record { settled = cell_of task last.request + 1; stopping_cell = Some (cell_of task last.request) } ∷ []

-- the causes that can stop a job while a request stands
abbrev pub is_stop : Why → Bool
is_stop Done = false
is_stop NotReady = false
is_stop _ = true

-- after a stop while a request stands, unless that request is over with a reply that isn't fatal
abbrev pub stopping : Task → Option Standing → Option Why → List Prefix
stopping task None cause = []
stopping task (Some last) None = []
stopping task (Some last) (Some cause) = if is_stop cause then stop_at task last else []

-- the plan is empty, or its last request is over and its reply isn't fatal
abbrev pub is_whole : Task → Option Standing → Bool
is_whole task None = length task.plan == 0
is_whole task (Some last) = last.request + 1 == length task.plan && is_passed last.later

-- how many cells the last of the saves settles
abbrev pub last_settled : ℕ → List Prefix → ℕ
last_settled n [] = n
last_settled n (prefix ∷ rest) = last_settled prefix.settled rest

-- the whole notebook once the plan is executed, where the save before settles less
abbrev pub closing_after : Task → Option Standing → List Prefix → List Prefix
closing_after task last before =
    if is_whole task last && nat_lt (last_settled 0 before) task.cells then record { settled = task.cells; stopping_cell = None } ∷ [] else []

-- the save of the whole notebook, where it is due
abbrev pub closing : Task → List Event → List Prefix
closing task events = closing_after task (standing task events) (passes task (length task.plan) events)

-- the saves that are due where nothing stops the job
abbrev pub plan_saves : Task → List Event → List Prefix
plan_saves task events = (after_preparation ∷ passes task (length task.plan) events) ++ closing task events

-- Why the job stops: the first row that holds.
abbrev pub is_done : Task → List Event → Bool
is_done task events = is_whole task (standing task events) && (nat_lt 0 (length task.plan) || length (plan_saves task events) == ack_count events)

-- the last request is over, and its reply is fatal
abbrev pub is_cell_error : Option Standing → Bool
is_cell_error None = false
is_cell_error (Some last) = is_over last.later && is_fatal last.later

-- no request stands, and a look was done after a turn's clock entry at or past the start deadline
abbrev pub is_not_ready : Task → Option Standing → List Event → Bool
is_not_ready task None events = looked_by (start_deadline task events) events
is_not_ready task (Some last) events = false

-- the request has a reply and isn't over, and a look was done after an entry at least 4,000 past the reply
abbrev pub is_no_idle : Option Standing → List Event → Bool
is_no_idle None events = false
is_no_idle (Some last) events = is_some (reply last.later) && not (is_over last.later) && look_since (is_turn_at (replied_at last events + idle_ms)) events

-- The request has no reply, and a look was done after an entry at or past its deadline; where interrupts are asked for,
-- its interrupt was queued, and the look was done after an entry 10,000 past the first at or past that deadline.
abbrev pub is_out_of_time : Task → ℕ → Option ℕ → List Event → Bool
is_out_of_time task k None events = false
is_out_of_time task k (Some first) events =
    if task.times.interrupt then is_queued task k first events && looked_by (second_deadline first events) events
    else look_since (is_turn_at first) events

-- the last request timed out
abbrev pub is_timed_out : Task → Option Standing → List Event → Bool
is_timed_out task None events = false
is_timed_out task (Some last) events = is_none (reply last.later) && is_out_of_time task last.request (first_deadline task last events) events

-- the cause by time: the first row that holds
abbrev pub late_cause : Task → Option Standing → List Event → Option Why
late_cause task last events =
    if is_not_ready task last events then Some NotReady
    else if is_no_idle last events then Some NoIdle
    else if is_timed_out task last events then Some TimedOut
    else None

-- the cause, where the plan isn't executed
abbrev pub why_not_done : Task → Option Standing → List Event → Option Why
why_not_done task last events =
    if is_cell_error last then Some CellError
    else if came is_broken events then Some BadPeer
    else if look_since is_lost events then Some KernelLost
    else late_cause task last events

-- why the job stops, if it does
abbrev pub why : Task → List Event → Option Why
why task events = if is_done task events then Some Done else why_not_done task (standing task events) events

-- all saves that are due, in order
abbrev pub saves : Task → List Event → List Prefix
saves task events = ((after_preparation ∷ passes task (length task.plan) events) ++ stopping task (standing task events) (why task events)) ++ closing task events

-- the saves that are due and not acknowledged
abbrev pub pending_saves : Task → List Event → List Prefix
pending_saves task events = drop (ack_count events) (saves task events)
