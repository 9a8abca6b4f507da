use Rattle.std.proofs.Common.{◌≡◌, drop}
use Rattle.job_graph.specs.Shape.{index_from, index_of}
use Rattle.job_graph.proofs.given.index_of.Given as goal

abbrev pub invariant-loop-i : goal.invariant-loop-i
invariant-loop-i l = index_from l.i l.name (drop l.i l.jobs) ≡ index_of l.fn.jobs l.fn.name
