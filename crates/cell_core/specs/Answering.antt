-- By which act a core answers which event.
use Rattle.std.specs.Prelude.{◌+◌, Option, Some, None, Bool, true, false, if◌then◌else◌, ◌||◌, not}
use Rattle.cell_core.specs.declared.event.Event.{Event}
use Rattle.cell_core.specs.declared.event.Event.TheVariants.{Io, Reply, Lost}
use Rattle.cell_core.specs.declared.act.Act.{Act}
use Rattle.cell_core.specs.declared.act.Act.TheVariants.{Nothing, Start, Send, Look, Interrupt, Save, Stop}
use Rattle.cell_core.specs.Task.{Task, cell_of}
use Rattle.cell_core.specs.Events.{is_saved, is_ready, is_broken, is_moment, is_looked}
use Rattle.cell_core.specs.Requests.{is_over, Standing}

-- a message of IOPub or a reply came
abbrev pub is_message : Event → Bool
is_message (Io message) = true
is_message (Reply fatal) = true
is_message _ = false

-- the kernel was found lost
abbrev pub is_loss : Event → Bool
is_loss Lost = true
is_loss _ = false

-- By which acts a job that goes on may answer an event. The kernel is started at an acknowledgement, and a request is sent
-- there or at readiness. A look is made at a loss or a clock entry, and an interrupt is queued at a look. A save is asked for,
-- and the job stops, at an acknowledgement, a look or a broken stream; a message, too, may bring a save, but never the stop.
-- An acknowledgement, a loss and a broken stream are never answered by nothing.
abbrev pub can_answer : Event → Act → Bool
can_answer event Nothing = not (is_saved event || is_loss event || is_broken event)
can_answer event Start = is_saved event
can_answer event (Send cell) = is_saved event || is_ready event
can_answer event Look = is_moment event || is_loss event
can_answer event Interrupt = is_looked event
can_answer event (Save settled) = is_saved event || is_message event || is_looked event || is_broken event
can_answer event (Stop cause) = is_saved event || is_looked event || is_broken event

-- the save after the last request that stands, where it is over
abbrev pub save_at_end : Task → Option Standing → Act
save_at_end task None = Nothing
save_at_end task (Some last) = if is_over last.later then Save (cell_of task last.request + 1) else Nothing
