-- What the core answers to the newest event.
use Rattle.std.specs.Prelude.{ℕ, zero, suc, List, [], ◌∷◌, Option, Some, None, is_some, is_none, Bool, true, false, if◌then◌else◌, ◌&&◌, ◌||◌, not, ◌==◌, ◌≡◌, ◌≤◌}
use Rattle.cell_core.specs.declared.event.Event.{Event}
use Rattle.cell_core.specs.declared.event.Event.TheVariants.{Saved, Io, Reply, Moment, Looked, Lost}
use Rattle.cell_core.specs.declared.why.Why.{Why}
use Rattle.cell_core.specs.declared.act.Act.{Act}
use Rattle.cell_core.specs.declared.act.Act.TheVariants.{Nothing, Start, Send, Look, Interrupt, Save, Stop}
use Rattle.cell_core.specs.Task.{Task, cell_of}
use Rattle.cell_core.specs.Events.{is_saved, is_lost, is_turn_at, ever, time, ack_count}
use Rattle.cell_core.specs.Deadlines.{start_deadline, deadline, first_deadline, queues, passed_by}
use Rattle.cell_core.specs.Requests.{has_idle, own, reply, Standing, standing}
use Rattle.cell_core.specs.Saves.{Prefix, why, saves, pending_saves, after_preparation}

-- no event came
abbrev pub is_empty_list : List Event → Bool
is_empty_list [] = true
is_empty_list (event ∷ later) = false

-- no save is left
abbrev pub is_empty : List Prefix → Bool
is_empty [] = true
is_empty (prefix ∷ rest) = false

-- The job has stopped where there is a cause and each save that is due is acknowledged.
abbrev pub has_stopped : Task → List Event → Bool
has_stopped task events = is_some (why task events) && is_empty (pending_saves task events)

-- the events up to the stop, which ends the job's connections
abbrev pub heard : Task → List Event → List Event
heard task [] = []
heard task (event ∷ past) = if has_stopped task (heard task past) then heard task past else event ∷ heard task past

-- The newest event is a message of the request's own, or its reply.
abbrev pub is_used : Event → Option Standing → Bool
is_used (Io message) (Some last) = not (has_idle (own last.later))
is_used (Reply fatal) (Some last) = is_none (reply last.later)
is_used _ _ = false

-- The deadline that stands while nothing stops the job.
abbrev pub due_at : Task → Option Standing → List Event → Option ℕ
due_at task None events = start_deadline task events
due_at task (Some last) events = deadline task last events

-- a turn's clock entry at or past the deadline was just read
abbrev pub is_late : Option ℕ → List Event → Bool
is_late None events = false
is_late (Some deadline) events = is_turn_at deadline events

-- the interrupt of request k is queued at the newest event, a look
abbrev pub is_queued_now : Task → ℕ → Option ℕ → List Event → Bool
is_queued_now task k None events = false
is_queued_now task k (Some first) events = task.times.interrupt && queues task k first events

-- The act where no save is due and there is no cause to stop. A last look is made at each loss of the kernel and at a
-- turn's clock entry at or past the deadline that stands. A look queues the interrupt. A request that comes to stand at
-- the newest event is sent, and at the first acknowledged save the kernel is started.
abbrev pub answers : Task → Option Standing → List Event → Act
answers task (Some last) (Looked ∷ past) =
    if is_queued_now task last.request (first_deadline task last (Looked ∷ past)) (Looked ∷ past) then Interrupt else Nothing
answers task last (Lost ∷ past) = Look
answers task last (Moment t ∷ past) = if is_late (due_at task last (Moment t ∷ past)) (Moment t ∷ past) then Look else Nothing
answers task (Some last) (event ∷ past) = if is_empty_list last.later then Send (cell_of task last.request) else Nothing
answers task None (Saved ∷ past) = if ack_count past == 0 then Start else Nothing
answers task last events = Nothing

-- the first save that is due is asked for; once each is acknowledged, a cause stops the job
abbrev pub act_by : Task → List Event → List Prefix → Option Why → Act
act_by task events (prefix ∷ rest) cause = Save prefix.settled
act_by task events [] (Some cause) = Stop cause
act_by task events [] None = answers task (standing task events) events

-- the act at the newest event
abbrev pub act_at : Task → List Event → Act
act_at task events = act_by task events (pending_saves task events) (why task events)

-- The answer to an event that comes after others: none after the stop.
abbrev pub act_of : Task → Event → List Event → Act
act_of task event past = if has_stopped task (heard task past) then Nothing else act_at task (event ∷ heard task past)

-- whether the message of an event that comes after others is used: never after the stop
abbrev pub takes_of : Task → Event → List Event → Bool
takes_of task event past = if has_stopped task (heard task past) then false else is_used event (standing task (heard task past))

-- An acknowledgement comes exactly where a save was asked for: the first event, and the event after each such act.
abbrev pub awaits_saved : Task → List Event → Bool
awaits_saved task events = not (is_empty (pending_saves task (heard task events)))

-- A last look is called for: the kernel was found lost, or a turn's clock entry at or past the deadline that stands was read.
abbrev pub calls_for_look : Task → List Event → Bool
calls_for_look task events = ever is_lost events || passed_by (due_at task (standing task events) events) events

-- A last look is to be made now: one is called for, no save is awaited and nothing stops the job.
abbrev pub wants_look_of : Task → List Event → Bool
wants_look_of task events =
    not (awaits_saved task events) && is_none (why task (heard task events)) && calls_for_look task (heard task events)

-- The clock never falls, and isn't read while a last look is called for.
abbrev pub IsTimely : Task → Event → List Event → Type 0
IsTimely task (Moment t) past = has_stopped task (heard task past) ≡ false → (time (heard task past) ≤ t) × (calls_for_look task (heard task past) ≡ false)
IsTimely task event past = Unit {0}

-- Each event comes where it may, and in time.
abbrev pub Meets : Task → List Event → Type 0
Meets task [] = Unit {0}
Meets task (event ∷ past) = (is_saved event ≡ awaits_saved task past) × IsTimely task event past × Meets task past

-- the deadline that stands: none where something stops the job
abbrev pub due_of : Task → List Event → Option ℕ
due_of task events = if is_some (why task (heard task events)) then None else due_at task (standing task (heard task events)) (heard task events)

-- the save last asked for: the one that is not acknowledged, or else the last
abbrev pub last_asked : List Prefix → ℕ → Prefix → Prefix
last_asked [] n before = before
last_asked (prefix ∷ rest) zero before = prefix
last_asked (prefix ∷ rest) (suc n) before = last_asked rest n prefix

-- the stopping cell of the save last asked for: none where that save is not a stop's
abbrev pub failing_at : Task → List Event → Option ℕ
failing_at task events = (last_asked (saves task events) (ack_count events) after_preparation).stopping_cell

-- the stopping cell of the save last asked for, over all events: those after the stop count for nothing
abbrev pub failing_of : Task → List Event → Option ℕ
failing_of task events = failing_at task (heard task events)
