-- What was saved before a job stops, by what the core holds (nbclient; papermill, which saves after each cell).
use Rattle.std.specs.Prelude.{◌≡◌, ℕ, ◌+◌, ◌<◌, length, Bool, true, false, Option, Some, None}
use Rattle.cell_core.specs.declared.machine.Core.{Core}
use Rattle.cell_core.specs.declared.state.State.{State}
use Rattle.cell_core.specs.declared.state.State.TheVariants.{Preparing, Starting, Running, Passing, Closing, Failing, Stopped}
use Rattle.cell_core.specs.declared.why.Why.{Why}
use Rattle.cell_core.specs.declared.why.Why.TheVariants.{Done, CellError, NotReady, KernelLost, TimedOut, NoIdle, BadPeer}
use Rattle.cell_core.specs.StandsFor.{task_of, failing_in}
use Rattle.cell_core.specs.Task.{Task, cell_of}
use Rattle.cell_core.specs.Requests.{Standing}

-- how many cells the save settles that was asked for and isn't acknowledged
abbrev pub asked_in : Task → State → ℕ
asked_in task Preparing = 0
asked_in task (Passing k) = cell_of task k + 1
asked_in task (Failing k why) = cell_of task k + 1
asked_in task Closing = task.cells
asked_in task _ = 0

-- how many cells the save settles that a core has asked for and that isn't acknowledged
abbrev pub asked_of : Core → ℕ
asked_of core = asked_in (task_of core) core.state

-- the stopping cell of the save that a core has asked for last
abbrev pub stopping_of : Core → Option ℕ
stopping_of core = failing_in (task_of core) core.state

-- the first save is acknowledged, and the kernel isn't ready
abbrev pub is_early : State → Bool
is_early (Starting due) = true
is_early _ = false

-- a core was told of the first save alone, and no request was sent
abbrev pub is_starting : Core → Bool
is_starting core = is_early core.state

-- a save settles the cells up to one that was to be executed, and names it as the stopping cell
pub record NamesCell (task : Task) (settled : ℕ) (stop : Option ℕ) : Type 0 where
  pub request : ℕ
  pub planned : request < length task.plan
  pub stop_is : stop ≡ Some (cell_of task request)
  pub settled_is : settled ≡ cell_of task request + 1

-- The last save before a stop for this cause settles so many cells and names that stopping cell: with `Done` it settles all cells
-- and names none, and with another cause it names the cell whose request stood. The start deadline stops a job only before that.
abbrev pub IsLastSave : Task → Why → ℕ → Option ℕ → Type 0
IsLastSave task Done settled stop = (settled ≡ task.cells) × (stop ≡ None)
IsLastSave task NotReady settled stop = ⊥
IsLastSave task _ settled stop = NamesCell task settled stop

-- a cause that can stop a job before a request was sent
abbrev pub IsEarly : Why → Type 0
IsEarly NotReady = Unit {0}
IsEarly KernelLost = Unit {0}
IsEarly BadPeer = Unit {0}
IsEarly _ = ⊥

-- The stopping cell of a job that stops for this cause, by the last request that stands: the cell of that request. None where no
-- request stands, or where the plan is executed.
abbrev pub cell_at_stop : Task → Why → Option Standing → Option ℕ
cell_at_stop task Done last = None
cell_at_stop task cause None = None
cell_at_stop task cause (Some last) = Some (cell_of task last.request)

-- a cause that stops a job only while a request stands
abbrev pub is_of_request : Why → Bool
is_of_request CellError = true
is_of_request TimedOut = true
is_of_request NoIdle = true
is_of_request _ = false
