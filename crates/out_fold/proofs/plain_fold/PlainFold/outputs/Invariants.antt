use Rattle.std.proofs.Common.{◌≡◌, drop}
use Rattle.out_fold.specs.Cells.{outputs_of}
use Rattle.out_fold.proofs.plain_fold.PlainFold.outputs.Given as goal

abbrev pub invariant-loop-i : goal.invariant-loop-i
invariant-loop-i l = outputs_of l.self.merge l.used l.cell ≡ outputs_of l.self.merge (drop l.i l.used) l.cell
