use Rattle.std.proofs.Common.{◌<◌, ℕ}
use Rattle.graph_run.specs.Answers.{IsFaultless}
use Rattle.graph_run.proofs.statuses.first_fault.Given as goal

abbrev pub invariant-loop-job : goal.invariant-loop-job
invariant-loop-job l = (k : ℕ) → k < l.job → IsFaultless l.ended k
