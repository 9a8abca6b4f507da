use Rattle.progress_save.specs.State.{Fits}
use Rattle.measure.proofs.saves.save_each.Given as goal

abbrev pub invariant-loop-i : goal.invariant-loop-i
invariant-loop-i g l = Fits l.progress l.notebook.cells
