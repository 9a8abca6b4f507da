use Rattle.std.proofs.Common.{◌≡◌, ◌++◌, drop, map}
use Rattle.job_graph.specs.Given.{taken, taken_by}
use Rattle.job_graph.proofs.given.taken_by.Given as goal

abbrev pub invariant-loop-pair : goal.invariant-loop-pair
invariant-loop-pair l = l.taken ++ map (taken l.jobs) (drop l.pair-index l.pair-items) ≡ taken_by l.fn.jobs l.fn.job
