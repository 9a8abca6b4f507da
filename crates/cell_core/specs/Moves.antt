-- What the core does in each of its states.
use Rattle.std.specs.Prelude.{ℕ, length, Option, Some, None, option_map, Bool, true, false, if◌then◌else◌, not, nat_lt, ◌+◌, ◌&&◌}
use Rattle.cell_core.specs.declared.event.Event.{Event}
use Rattle.cell_core.specs.declared.event.Event.TheVariants.{Saved, Ready, Io, Reply, Moment, Looked, Lost, Broken}
use Rattle.cell_core.specs.declared.brief.Brief.{Brief}
use Rattle.cell_core.specs.declared.brief.Brief.TheVariants.{Idle, Else}
use Rattle.cell_core.specs.declared.why.Why.{Why}
use Rattle.cell_core.specs.declared.why.Why.TheVariants.{Done, CellError, BadPeer, KernelLost, NotReady, NoIdle, TimedOut}
use Rattle.cell_core.specs.declared.act.Act.{Act}
use Rattle.cell_core.specs.declared.act.Act.TheVariants.{Nothing, Start, Send, Save, Stop, Look, Interrupt}
use Rattle.cell_core.specs.declared.clock.Clock.{Clock}
use Rattle.cell_core.specs.declared.state.State.{State}
use Rattle.cell_core.specs.declared.state.State.TheVariants.{Preparing, Starting, Running, Passing, Closing, Failing, Stopped}
use Rattle.cell_core.specs.declared.moved.Moved.{Moved}
use Rattle.cell_core.specs.Task.{Task, cell_of}
use Rattle.cell_core.specs.Holds.{running_state, now_of, is_read, is_past, read_again}

-- to a state, with an answer
abbrev pub move : State → Bool → Act → Moved
move state takes act = record { state = state; step = record { takes = takes; act = act } }

-- to the same state, with no act
abbrev pub stays : State → Moved
stays state = move state false Nothing

-- the first deadline of a request that comes to stand now
abbrev pub limit_from : Task → ℕ → Option ℕ
limit_from task now = option_map (λ limit. now + limit) task.times.limit_ms

-- request k comes to stand, and is sent
abbrev pub sends : Task → Clock → ℕ → Moved
sends task clock k = move (running_state k None false (limit_from task (now_of clock)) false) false (Send (cell_of task k))

-- request k and its reply and idle are there
abbrev pub after_end : ℕ → Bool → State
after_end k true = Failing k CellError
after_end k false = Passing k

-- request k is over: its save is asked for
abbrev pub ends : Task → ℕ → Bool → Moved
ends task k fatal = move (after_end k fatal) true (Save (cell_of task k + 1))

-- the job stops while request k stands: its save is asked for
abbrev pub fails : Task → ℕ → Why → Moved
fails task k why = move (Failing k why) false (Save (cell_of task k + 1))

-- the job stops with no save
abbrev pub stops : Why → Moved
stops why = move (Stopped None) false (Stop why)

-- from the first save, to the start, or where nothing is to run to the end
abbrev pub in_preparing : Task → Event → Moved
in_preparing task Saved =
    if nat_lt 0 (length task.plan) then move (Starting None) false Start
    else if nat_lt 0 task.cells then move Closing false (Save task.cells)
    else stops Done
in_preparing task _ = stays Preparing

-- the start deadline, fixed by the first clock entry
abbrev pub start_due : Task → Clock → Option ℕ → ℕ → Option ℕ
start_due task clock due t = if is_read clock then due else Some (t + task.times.start_ms)

-- to a last look where it is late
abbrev pub look_or : State → Bool → Moved
look_or state late = move state false (if late then Look else Nothing)

-- while readiness is awaited
abbrev pub in_starting : Task → Clock → Bool → Option ℕ → Event → Moved
in_starting task clock lost due Ready = sends task clock 0
in_starting task clock lost due Broken = stops BadPeer
in_starting task clock lost due Lost = move (Starting due) false Look
in_starting task clock lost due Looked = if lost then stops KernelLost else if is_past clock due then stops NotReady else stays (Starting due)
in_starting task clock lost due (Moment t) = look_or (Starting (start_due task clock due t)) (is_past (read_again clock t) (start_due task clock due t))
in_starting task clock lost due _ = stays (Starting due)

-- a look after the deadline
abbrev pub late : Task → Clock → ℕ → Option Bool → Bool → Bool → Moved
late task clock k (Some fatal) idle interrupted = fails task k NoIdle
late task clock k None idle interrupted =
    if task.times.interrupt && not interrupted then move (running_state k None idle (Some (now_of clock + 10000)) true) false Interrupt
    else fails task k TimedOut

-- a message of request k
abbrev pub on_io : Task → ℕ → Option Bool → Bool → Option ℕ → Bool → Brief → Moved
on_io task k fatal true due interrupted message = stays (running_state k fatal true due interrupted)
on_io task k fatal false due interrupted Else = move (running_state k fatal false due interrupted) true Nothing
on_io task k (Some fatal) false due interrupted Idle = ends task k fatal
on_io task k None false due interrupted Idle = move (running_state k None true due interrupted) true Nothing

-- a reply to request k
abbrev pub on_reply : Task → Clock → ℕ → Option Bool → Bool → Option ℕ → Bool → Bool → Moved
on_reply task clock k (Some old) idle due interrupted fatal = stays (running_state k (Some old) idle due interrupted)
on_reply task clock k None true due interrupted fatal = ends task k fatal
on_reply task clock k None false due interrupted fatal = move (running_state k (Some fatal) false (Some (now_of clock + 4000)) interrupted) true Nothing

-- while request k stands
abbrev pub in_running : Task → Clock → Bool → ℕ → Option Bool → Bool → Option ℕ → Bool → Event → Moved
in_running task clock lost k fatal idle due interrupted (Io message) = on_io task k fatal idle due interrupted message
in_running task clock lost k fatal idle due interrupted (Reply failed) = on_reply task clock k fatal idle due interrupted failed
in_running task clock lost k fatal idle due interrupted Broken = fails task k BadPeer
in_running task clock lost k fatal idle due interrupted Lost = move (running_state k fatal idle due interrupted) false Look
in_running task clock lost k fatal idle due interrupted Looked =
    if lost then fails task k KernelLost
    else if is_past clock due then late task clock k fatal idle interrupted
    else stays (running_state k fatal idle due interrupted)
in_running task clock lost k fatal idle due interrupted (Moment t) = look_or (running_state k fatal idle due interrupted) (is_past (read_again clock t) due)
in_running task clock lost k fatal idle due interrupted _ = stays (running_state k fatal idle due interrupted)

-- the save after request k is acknowledged
abbrev pub on_passed : Task → Clock → ℕ → Moved
on_passed task clock k =
    if nat_lt (k + 1) (length task.plan) then sends task clock (k + 1)
    else if nat_lt (cell_of task k + 1) task.cells then move Closing false (Save task.cells)
    else stops Done

-- while the save after request k is awaited
abbrev pub in_passing : Task → Clock → ℕ → Event → Moved
in_passing task clock k Saved = on_passed task clock k
in_passing task clock k _ = stays (Passing k)

-- while the save of the whole notebook is awaited
abbrev pub in_closing : Event → Moved
in_closing Saved = stops Done
in_closing _ = stays Closing

-- while the save of a stop is awaited
abbrev pub in_failing : ℕ → Why → Event → Moved
in_failing k why Saved = move (Stopped (Some k)) false (Stop why)
in_failing k why _ = stays (Failing k why)

-- one event, in each state
abbrev pub next_move : Task → Clock → Bool → State → Event → Moved
next_move task clock lost Preparing event = in_preparing task event
next_move task clock lost (Starting due) event = in_starting task clock lost due event
next_move task clock lost (Running r) event = in_running task clock lost r.at r.fatal r.idle r.due r.interrupted event
next_move task clock lost (Passing k) event = in_passing task clock k event
next_move task clock lost Closing event = in_closing event
next_move task clock lost (Failing k why) event = in_failing k why event
next_move task clock lost (Stopped failing) event = stays (Stopped failing)
