-- What a job leaves at its output where it stops (Papermill and nbclient save after each cell).
use Rattle.std.specs.Prelude.{ℕ, ◌+◌, ◌<◌, ◌⊎◌, length, Some, None}
use Rattle.cell_core.specs.declared.why.Why.{Why}
use Rattle.cell_core.specs.declared.why.Why.TheVariants as why
use Rattle.cell_core.specs.Task.{Task, cell_of}
use Rattle.job_saves.specs.Left.{OutputAt, IsLeft}

-- a crash leaves the notebook with the cells settled up to one that was to be executed, which is the cell at which the run stopped
pub record NamesFailed (m : OutputAt) (task : Task) : Type 0 where
  pub request : ℕ
  pub planned : request < length task.plan
  pub left : IsLeft m (cell_of task request + 1) (Some (cell_of task request))

-- What a crash leaves where a job stops for this cause. Where all is executed, each cell is settled, and no cell is named. Where the
-- kernel was never ready, no cell is settled. Else the save names a failed cell; a kernel that is lost and a stream that breaks can
-- stop a job before a request was sent, and then no cell is settled.
abbrev pub Leaves : OutputAt → Task → Why → Type 0
Leaves m task why.Done = IsLeft m task.cells None
Leaves m task why.NotReady = IsLeft m 0 None
Leaves m task why.KernelLost = IsLeft m 0 None ⊎ NamesFailed m task
Leaves m task why.BadPeer = IsLeft m 0 None ⊎ NamesFailed m task
Leaves m task why.CellError = NamesFailed m task
Leaves m task why.TimedOut = NamesFailed m task
Leaves m task why.NoIdle = NamesFailed m task
