use Rattle.std.proofs.Common.{◌≡◌, drop}
use Rattle.job_graph.specs.Faults as spec
use Rattle.job_graph.proofs.takes.first_take_fault.Given as goal

abbrev pub invariant-loop-p : goal.invariant-loop-p
invariant-loop-p l = spec.first_take_fault l.i l.job l.p (drop l.p l.pairs) ≡ spec.first_take_fault l.fn.i l.fn.job 0 l.fn.pairs
