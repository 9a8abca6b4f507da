-- What is to be run: the code cells of a notebook, in order (nbformat 4.5).
use Rattle.std.specs.Prelude.{ℕ, List, slice_index}
use Rattle.cell_core.specs.declared.times.Times.{Times}

-- the cells to run, of how many, and the limits
pub record Task : Type 0 where
  pub plan : List ℕ  -- the indices of the cells to run
  pub cells : ℕ  -- how many cells the notebook has
  pub times : Times

-- The cell of request k. Requests are counted from 0, as places in the plan.
abbrev pub cell_of : Task → ℕ → ℕ
cell_of task k = slice_index task.plan k
