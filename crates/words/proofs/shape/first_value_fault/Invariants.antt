use Rattle.std.proofs.Common.{◌≡◌, drop}
use Rattle.words.specs.JobsFaults as spec
use Rattle.words.proofs.shape.first_value_fault.Given as goal

abbrev pub invariant-loop-pair : goal.invariant-loop-pair
invariant-loop-pair l = spec.first_value_fault l.i (drop l.pair-index l.pairs) ≡ spec.first_value_fault l.fn.i l.fn.pairs
