use Rattle.std.proofs.Common.{◌≡◌, [], take, drop}
use Rattle.job_graph.specs.Faults as spec
use Rattle.job_graph.proofs.needs.first_need_fault.Given as goal

abbrev pub invariant-loop-k : goal.invariant-loop-k
invariant-loop-k l = spec.first_need_fault l.jobs l.i l.job (take l.k l.needs) (drop l.k l.needs) ≡ spec.first_need_fault l.fn.jobs l.fn.i l.fn.job [] l.fn.needs
