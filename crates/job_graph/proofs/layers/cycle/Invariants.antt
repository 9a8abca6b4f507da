use Rattle.std.proofs.Common.{◌≡◌, drop}
use Rattle.job_graph.specs.Layers.{first_unplaced}
use Rattle.job_graph.proofs.layers.cycle.Given as goal

abbrev pub invariant-loop-job : goal.invariant-loop-job
invariant-loop-job l = first_unplaced l.job (drop l.job l.placed) ≡ first_unplaced 0 l.fn.placed
