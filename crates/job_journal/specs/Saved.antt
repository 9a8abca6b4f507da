-- Which save is made next, by what the core asks for (papermill, which saves after each cell).
use Rattle.std.specs.Prelude.{◌≡◌, ℕ, List, Some, slice_get}
use Rattle.cell_core.specs.declared.event.Event.{Event}
use Rattle.cell_core.specs.Acts.{failing_at}
use Rattle.cell_core.specs.Events.{ack_count}
use Rattle.cell_core.specs.Saves.{Prefix, saves}
use Rattle.cell_core.specs.Task.{Task}
use Rattle.out_fold.specs.declared.used.Used.{Used}
use Rattle.run_journal.specs.Job.{Job}
use Rattle.run_journal.specs.Saves.{Save, save}

-- the save of what was used so far that settles so many cells as this one, with its stopping cell
abbrev pub save_of : Job → List Used → Prefix → Save
save_of j us p = save j us p.settled p.stopping_cell

-- A core that was told these events asks for a save that settles so many cells: it is the first one that isn't acknowledged, and the
-- stopping cell that the core names is that save's.
pub record IsAsked (task : Task) (told : List Event) (settled : ℕ) : Type 0 where
  pub asked : Prefix
  pub at : slice_get (saves task told) (ack_count told) ≡ Some asked
  pub settled_is : asked.settled ≡ settled
  pub stop_is : failing_at task told ≡ asked.stopping_cell
