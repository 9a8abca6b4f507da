use Rattle.std.proofs.Common.{◌≡◌, ◌++◌, drop, map}
use Rattle.job_graph.specs.Shape.{needed_by, index_of_value}
use Rattle.job_graph.proofs.given.needed_by.Given as goal

abbrev pub invariant-loop-v : goal.invariant-loop-v
invariant-loop-v l = l.needed ++ map (index_of_value l.jobs) (drop l.v-index l.v-items) ≡ needed_by l.fn.jobs l.fn.job
