use Rattle.std.proofs.Common.{◌≡◌, drop}
use Rattle.words.specs.JobsFaults as spec
use Rattle.words.proofs.shape.first_job_fault.Given as goal

abbrev pub invariant-loop-i : goal.invariant-loop-i
invariant-loop-i l = spec.first_job_fault l.i (drop l.i l.jobs) ≡ spec.first_job_fault 0 l.fn.jobs
