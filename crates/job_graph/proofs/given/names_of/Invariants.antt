use Rattle.std.proofs.Common.{◌≡◌, ◌++◌, drop, map}
use Rattle.job_graph.specs.Given.{names_of}
use Rattle.job_graph.specs.Shape.{name_of}
use Rattle.job_graph.proofs.given.names_of.Given as goal

abbrev pub invariant-loop-job : goal.invariant-loop-job
invariant-loop-job l = l.names ++ map name_of (drop l.job-index l.job-items) ≡ names_of l.fn.t
