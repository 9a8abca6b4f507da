use Rattle.std.proofs.Common.{◌≡◌, drop}
use Rattle.nbrun_top.specs.ExerciseNumbers.{outputs_from}
use Rattle.nbrun_top.proofs.exercise_numbers.outputs.Given as goal

abbrev pub invariant-loop-cell : goal.invariant-loop-cell
invariant-loop-cell l = outputs_from l.total (drop l.cell-index l.cells) ≡ outputs_from 0 l.cells
