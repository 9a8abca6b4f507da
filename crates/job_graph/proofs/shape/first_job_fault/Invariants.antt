use Rattle.std.proofs.Common.{◌≡◌, drop}
use Rattle.job_graph.specs.Faults as spec
use Rattle.job_graph.proofs.shape.first_job_fault.Given as goal

abbrev pub invariant-loop-i : goal.invariant-loop-i
invariant-loop-i l = spec.first_job_fault l.jobs l.i (drop l.i l.jobs) ≡ spec.first_job_fault l.fn.jobs 0 l.fn.jobs
