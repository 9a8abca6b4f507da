use Rattle.std.proofs.Common.{◌≡◌, ◌++◌, drop, map}
use Rattle.job_graph.specs.Given.{needs_of_graph}
use Rattle.job_graph.specs.Shape.{needed_by}
use Rattle.job_graph.proofs.given.needs_of_graph.Given as goal

abbrev pub invariant-loop-job : goal.invariant-loop-job
invariant-loop-job l = l.needs ++ map (needed_by l.jobs) (drop l.job-index l.jobs) ≡ needs_of_graph l.fn.t
