use Rattle.std.proofs.Common.{◌≡◌, drop}
use Rattle.job_graph.specs.Faults as spec
use Rattle.job_graph.proofs.takes.first_member_fault.Given as goal

abbrev pub invariant-loop-pair : goal.invariant-loop-pair
invariant-loop-pair l = spec.first_member_fault l.i l.job l.p (drop l.pair-index l.pairs) ≡ spec.first_member_fault l.fn.i l.fn.job l.fn.p l.fn.pairs
