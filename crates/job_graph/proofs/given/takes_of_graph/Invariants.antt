use Rattle.std.proofs.Common.{◌≡◌, ◌++◌, drop, map}
use Rattle.job_graph.specs.Given.{takes_of_graph, taken_by}
use Rattle.job_graph.proofs.given.takes_of_graph.Given as goal

abbrev pub invariant-loop-job : goal.invariant-loop-job
invariant-loop-job l = l.takes ++ map (taken_by l.jobs) (drop l.job-index l.jobs) ≡ takes_of_graph l.fn.t
