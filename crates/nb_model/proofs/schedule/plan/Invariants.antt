use Rattle.std.proofs.Common.{◌≡◌, ◌++◌, drop}
use Rattle.nb_model.specs.Planned.{planned_from}
use Rattle.nb_model.proofs.schedule.plan.Given as goal

abbrev pub invariant-loop-i : goal.invariant-loop-i
invariant-loop-i l = l.plan ++ planned_from l.i (drop l.i l.n.cells) ≡ planned_from 0 l.n.cells
