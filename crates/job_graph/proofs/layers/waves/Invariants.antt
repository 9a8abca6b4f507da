use Rattle.std.proofs.Common.{◌≡◌, length}
use Rattle.job_graph.specs.Layers.{first_waves, placed_in}
use Rattle.job_graph.proofs.Assembly.{unplaced}
use Rattle.job_graph.proofs.layers.waves.Given as goal

-- the first waves are made, and the jobs in these are placed
abbrev pub invariant-loop-alloc : goal.invariant-loop-alloc
invariant-loop-alloc l = record {
  made : l.waves ≡ first_waves l.fn.needs (length l.waves);
  placed : l.placed ≡ placed_in l.fn.needs (length l.waves);
}

abbrev pub decreases-loop-alloc : goal.decreases-loop-alloc
decreases-loop-alloc l = unplaced l.placed
