use Rattle.std.proofs.Common.{◌≡◌, ◌++◌, map}
use Rattle.job_graph.specs.Given as spec
use Rattle.job_graph.proofs.plain.plain_jobs.Given as goal

abbrev pub invariant-loop-job : goal.invariant-loop-job
invariant-loop-job l = l.plain ++ map spec.plain_job l.job-iterator.rest.items ≡ map spec.plain_job l.fn.jobs
