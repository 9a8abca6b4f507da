-- In which order requests are sent, and how far a save reaches, by what the core holds.
use Rattle.std.specs.Prelude.{◌≡◌, ℕ, ◌+◌, ◌<◌, ◌≤◌}
use Rattle.std.specs.List.{AllPairs}
use Rattle.cell_core.specs.declared.act.Act.{Act}
use Rattle.cell_core.specs.declared.act.Act.TheVariants.{Send, Save}
use Rattle.cell_core.specs.declared.state.State.{State}
use Rattle.cell_core.specs.declared.state.State.TheVariants.{Preparing, Starting, Running, Passing, Closing, Failing, Stopped}
use Rattle.cell_core.specs.declared.machine.Core.{Core}
use Rattle.cell_core.specs.Task.{Task, cell_of}
use Rattle.cell_core.specs.StandsFor.{task_of}

-- no request of a cell below this index is sent any more
abbrev pub next_in : Task → State → ℕ
next_in task Preparing = 0
next_in task (Starting due) = 0
next_in task (Running r) = cell_of task r.at + 1
next_in task (Passing k) = cell_of task k + 1
next_in task (Failing k why) = cell_of task k + 1
next_in task Closing = task.cells
next_in task (Stopped failing) = task.cells

-- a core sends no request of a cell below this index any more
abbrev pub next_of : Core → ℕ
next_of core = next_in (task_of core) core.state

-- at most so many saves are asked for, one on the acknowledgement of the other, that of the state among them
abbrev pub saves_in : State → ℕ
saves_in Preparing = 2
saves_in (Passing k) = 2
saves_in Closing = 1
saves_in (Failing k why) = 1
saves_in (Starting due) = 0
saves_in (Running r) = 0
saves_in (Stopped failing) = 0

-- a core asks for at most so many saves, one on the acknowledgement of the other, the awaited one among them
abbrev pub saves_ahead : Core → ℕ
saves_ahead core = saves_in core.state

-- the cells to run stand in the order of the notebook
abbrev pub IsInOrder : Task → Type 0
IsInOrder task = AllPairs (λ i j. i < j) task.plan

-- A request is of a cell of the notebook that stands after those before; a save settles all cells up to the last request's,
-- and no more than there are.
abbrev pub SendsOn : Task → ℕ → ℕ → Act → Type 0
SendsOn task was now (Send cell) = (was ≤ cell) × (cell < task.cells) × (now ≡ cell + 1)
SendsOn task was now (Save settled) = (was ≤ settled) × (settled ≤ now) × (now ≤ task.cells)
SendsOn task was now act = was ≤ now
