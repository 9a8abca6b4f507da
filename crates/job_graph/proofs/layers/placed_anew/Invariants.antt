use Rattle.std.proofs.Common.{◌≡◌, ◌++◌, drop}
use Rattle.job_graph.specs.Layers.{anew_from, placed_anew}
use Rattle.job_graph.proofs.layers.placed_anew.Given as goal

abbrev pub invariant-loop-job : goal.invariant-loop-job
invariant-loop-job l = l.wave ++ anew_from l.placed l.job (drop l.job l.next) ≡ placed_anew 0 l.fn.placed l.fn.next
