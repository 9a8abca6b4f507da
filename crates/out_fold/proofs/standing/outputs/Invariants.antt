use Rattle.std.proofs.Common.{◌≡◌, ◌++◌, drop}
use Rattle.out_fold.specs.Shown as spec
use Rattle.out_fold.specs.Cells.{all_contents}
use Rattle.out_fold.specs.Plain.{contents_of}
use Rattle.out_fold.proofs.standing.outputs.Given as goal

abbrev pub invariant-loop-i : goal.invariant-loop-i
invariant-loop-i l = spec.outputs (contents_of l.own) (all_contents l.later) ≡ l.outputs ++ spec.outputs (contents_of (drop l.i l.own)) (all_contents l.later)
