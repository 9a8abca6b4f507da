-- What a core holds.
use Rattle.std.specs.Prelude.{ℕ, Some, None, Option, Bool, true, false, ◌+◌, ◌&&◌, ◌||◌, ◌<◌, ◌^◌, nat_le}
use Rattle.cell_core.specs.declared.event.Event.{Event}
use Rattle.cell_core.specs.declared.event.Event.TheVariants.{Moment, Lost}
use Rattle.cell_core.specs.declared.act.Act.{Act}
use Rattle.cell_core.specs.declared.act.Act.TheVariants.{Save}
use Rattle.cell_core.specs.declared.clock.Clock.{Clock}
use Rattle.cell_core.specs.declared.clock.Clock.TheVariants.{Unread, Started, Turned}
use Rattle.cell_core.specs.declared.state.State.{State}
use Rattle.cell_core.specs.declared.state.State.TheVariants.{Preparing, Starting, Running, Passing, Closing, Failing, Stopped}

-- request k stands: whether its reply is fatal, where it came; whether its idle came; its deadline; whether it was interrupted
abbrev pub running_state : ℕ → Option Bool → Bool → Option ℕ → Bool → State
running_state k fatal idle due interrupted = Running (record { at = k; fatal = fatal; idle = idle; due = due; interrupted = interrupted })

-- the last place of the plan that a state names, and one more
abbrev pub reach : State → ℕ
reach (Starting due) = 1
reach (Running r) = r.at + 1
reach (Passing k) = k + 1
reach (Failing k why) = k + 1
reach (Stopped (Some k)) = k + 1
reach _ = 0

-- a save was asked for and not acknowledged
abbrev pub awaits : State → Bool
awaits Preparing = true
awaits (Passing k) = true
awaits Closing = true
awaits (Failing k why) = true
awaits _ = false

-- the deadline that stands
abbrev pub due_in : State → Option ℕ
due_in (Starting due) = due
due_in (Running r) = r.due
due_in _ = None

-- the act asks for a save
abbrev pub is_save : Act → Bool
is_save (Save n) = true
is_save _ = false

-- the last entry of the clock, 0 before the first
abbrev pub now_of : Clock → ℕ
now_of Unread = 0
now_of (Started t) = t
now_of (Turned t) = t

-- the clock was read
abbrev pub is_read : Clock → Bool
is_read Unread = false
is_read _ = true

-- the clock was read by a turn
abbrev pub is_turned : Clock → Bool
is_turned (Turned t) = true
is_turned _ = false

-- the clock after one more entry
abbrev pub read_again : Clock → ℕ → Clock
read_again Unread t = Started t
read_again _ t = Turned t

-- the clock after an event
abbrev pub clock_after : Clock → Event → Clock
clock_after clock (Moment t) = read_again clock t
clock_after clock _ = clock

-- whether the kernel was found lost, after an event
abbrev pub lost_after : Bool → Event → Bool
lost_after lost Lost = true
lost_after lost _ = lost

-- a turn's entry at or past the deadline was read
abbrev pub is_past : Clock → Option ℕ → Bool
is_past clock None = false
is_past clock (Some due) = is_turned clock && nat_le due (now_of clock)

-- the kernel was found lost, or a turn's entry at or past the deadline that stands was read, and no save is awaited
abbrev pub looks_in : Clock → Bool → State → Bool
looks_in clock lost (Starting due) = lost || is_past clock due
looks_in clock lost (Running r) = lost || is_past clock r.due
looks_in clock lost _ = false

-- a moment that the clock can give
abbrev pub IsSmall : Event → Type 0
IsSmall (Moment t) = t < 2 ^ 47
IsSmall _ = Unit {0}
