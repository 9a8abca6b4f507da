use Rattle.std.proofs.Common.{◌≡◌, ◌++◌, drop, map}
use Rattle.words.specs.JobsAsked.{ask_of_job}
use Rattle.words.proofs.batch.asks.Given as goal

abbrev pub invariant-loop-job : goal.invariant-loop-job
invariant-loop-job l = l.asks ++ map (ask_of_job l.common) (drop l.job-index l.jobs) ≡ map (ask_of_job l.fn.common) l.fn.jobs
