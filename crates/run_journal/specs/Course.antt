-- The events that the core of a job is told, by the journal.
use Rattle.std.specs.Prelude.{ℕ, ◌==◌, ◌&&◌, ◌||◌, List, [], ◌∷◌, ◌++◌, Bool, not, Option, Some, None, if◌then◌else◌, map, filter, take, is_some}
use Rattle.world.specs.declared.chan.Chan.TheVariants.{Shell, Iopub}
use Rattle.world.specs.declared.entry.Entry.{Entry}
use Rattle.world.specs.declared.entry.Entry.TheVariants as made
use Rattle.world.specs.Places.{time}
use Rattle.world.specs.Waits.{is_wait, has_wait, before_wait}
use Rattle.cell_core.specs.declared.brief.Brief.{Brief}
use Rattle.cell_core.specs.declared.brief.Brief.TheVariants as brief
use Rattle.cell_core.specs.declared.event.Event.{Event}
use Rattle.cell_core.specs.declared.event.Event.TheVariants as event
use Rattle.cell_core.specs.Acts.{awaits_saved, has_stopped, heard}
use Rattle.out_fold.specs.Cells.{says_idle}
use Rattle.run_journal.specs.Codec.{Arrival}
use Rattle.run_journal.specs.Job.{Job}
use Rattle.run_journal.specs.Parts.{turn_clock, is_acknowledging, is_running}
use Rattle.run_journal.specs.Arrivals.{arrive, is_ready}
use Rattle.run_journal.specs.Looks.{is_look, shows_lost}
use Rattle.run_journal.specs.Requests.{Request, is_exec_reply, is_parent, through_idle, has_idle, reply, is_over, is_broken, requests, last_request}
use Rattle.run_journal.specs.Awake.{is_called_for}

-- ---- the arrivals of an entry, up to the one by which the request is over

-- what a message on IOPub says of its request
abbrev pub brief_of : Arrival → Brief
brief_of m = if says_idle m.content then brief.Idle else brief.Else

-- messages on IOPub: where the reply has come, up to the idle by which the request is over
abbrev pub ios : Request → List Arrival → List Event
ios r ms = map (λ m. event.Io (brief_of m)) (if is_some (reply r) then through_idle ms else ms)

-- replies: where the idle has come, the first, by which the request is over
abbrev pub replies : Job → ℕ → Request → List Arrival → List Event
replies j k r ms = map (λ m. event.Reply (j.fatal k m.content)) (if has_idle r.io then take 1 ms else ms)

-- what an entry brings for the last request, if one stands and isn't over
abbrev pub came_for : Job → Option (ℕ × Request) → Entry → List Entry → List Event
came_for j None entry past = []
came_for j (Some r) entry past =
    if is_over r.1 then []
    else ios r.1 (filter (λ m. is_parent j r.1.number m.parent) (arrive j Iopub entry past))
    ++ replies j r.0 r.1 (filter (λ m. is_exec_reply m.content && is_parent j r.1.number m.parent) (arrive j Shell entry past))

-- ---- the clock

-- the clock of the job's own beginning, which is read directly before its ports are drawn
abbrev pub begins_at : Job → Entry → List Entry → List Event
begins_at j (made.Ports job ports) past = if job == j.number then event.Moment (time past) ∷ [] else []
begins_at j _ past = []

-- a turn's clock entry
abbrev pub clock_event : Option ℕ → List Event
clock_event None = []
clock_event (Some ms) = event.Moment ms ∷ []

-- one event where a condition holds, and else none
abbrev pub when_so : Bool → Event → List Event
when_so holds event = if holds then event ∷ [] else []

-- ---- last looks

-- the last wait was that of a look which the job called for
abbrev pub in_look : Job → List Entry → Bool
in_look j past = has_wait past && is_called_for j (before_wait past)

-- the look ends with this entry
abbrev pub ends_look : Job → Entry → List Entry → Bool
ends_look j entry past = in_look j (entry ∷ past) && is_look j (entry ∷ past) && (is_wait entry || not (is_look j past))

-- the kernel's loss that shows in a look waits for its end
abbrev pub is_late : Job → Entry → List Entry → Bool
is_late j entry past = shows_lost j (entry ∷ past) && in_look j past && not (is_look j past)

-- ---- the course

-- what an entry gives, in order; late are the losses that waited for this look
abbrev pub events_at : Job → Entry → List Entry → List Event → List Event
events_at j entry past late =
    came_for j (last_request 0 (requests j past)) entry past
    ++ when_so (is_ready j (entry ∷ past) && not (is_ready j past)) event.Ready
    ++ when_so (is_broken j (entry ∷ past) && not (is_broken j past)) event.Broken
    ++ begins_at j entry past
    ++ (if is_running j past then clock_event (turn_clock (entry ∷ past)) else [])
    ++ when_so (shows_lost j (entry ∷ past) && not (is_late j entry past)) event.Lost
    ++ (if ends_look j entry past then event.Looked ∷ late ++ when_so (is_late j entry past) event.Lost else [])

-- what was told so far, the newest first; what waits for a save; what waits for a look; and what the newest entry gave after
-- the stop
pub record Course : Type 0 where
  pub told : List Event
  pub held : List Event
  pub late : List Event
  pub unheard : List Event

-- while a save is asked for, nothing but its acknowledgement is told; after a stop nothing is
abbrev pub tell : Job → List Event → List Event → List Event → Course
tell j told late [] = record { told = told; held = []; late = late; unheard = [] }
tell j told late (event ∷ held) =
    if has_stopped j.task (heard j.task told) then record { told = told; held = []; late = []; unheard = event ∷ held }
    else if awaits_saved j.task told then record { told = told; held = event ∷ held; late = late; unheard = [] }
    else tell j (event ∷ told) late held

-- the losses that wait for a look after this entry
abbrev pub late_then : Job → Entry → List Entry → List Event → List Event
late_then j entry past late = if ends_look j entry past then [] else late ++ when_so (is_late j entry past) event.Lost

-- an acknowledgement is told before anything that waits for it
abbrev pub told_saved : Job → Entry → List Entry → List Event → List Event
told_saved j entry past told = if is_acknowledging j (entry ∷ past) then event.Saved ∷ told else told

-- what an entry makes of the course
abbrev pub goes : Job → Entry → List Entry → Course → Course
goes j entry past c = tell j (told_saved j entry past c.told) (late_then j entry past c.late) (c.held ++ events_at j entry past c.late)

-- the events of a journal
abbrev pub course : Job → List Entry → Course
course j [] = record { told = []; held = []; late = []; unheard = [] }
course j (entry ∷ past) = goes j entry past (course j past)
