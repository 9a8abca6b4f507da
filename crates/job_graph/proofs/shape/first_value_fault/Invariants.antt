use Rattle.std.proofs.Common.{◌≡◌, drop}
use Rattle.jtext.specs.Find.{fields}
use Rattle.job_graph.specs.Faults as spec
use Rattle.job_graph.proofs.shape.first_value_fault.Given as goal

abbrev pub invariant-loop-pair : goal.invariant-loop-pair
invariant-loop-pair l = spec.first_value_fault l.jobs l.i l.job (drop l.pair-index l.pair-items) ≡ spec.first_value_fault l.fn.jobs l.fn.i l.fn.job (fields l.fn.job)
