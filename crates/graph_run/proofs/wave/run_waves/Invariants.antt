use Rattle.std.proofs.Common.{◌≡◌, ◌≤◌, ◌+◌, take, drop}
use Rattle.job_graph.specs.Waves.{job_count}
use Rattle.world.specs.Counts.{CountsGrow}
use Rattle.world.specs.Moments.{Told}
use Rattle.graph_run.specs.Ran.{AreCaused}
use Rattle.graph_run.specs.Waves.{Runs}
use Rattle.graph_run.proofs.wave.run_waves.Given as goal

abbrev pub invariant-loop-wave : goal.invariant-loop-wave
invariant-loop-wave g l = record {
  runs : Told (g.W.Journal.journal l.fn.w) (g.W.Journal.journal l.w) (λ before now. Runs l.fn.flow l.fn.limits.here l.fn.limits.turns (g.W.Journal.counts l.fn.w) before (take l.wave-index l.waves) l.standing (g.W.Journal.counts l.w) now);
  are : l.waves ≡ l.fn.flow.waves;
  from : l.from ≡ (g.W.Journal.counts l.fn.w).waits;
  caused : AreCaused ((g.W.Journal.counts l.fn.w).waits + l.fn.limits.turns) (g.W.Journal.counts l.fn.w) (g.W.Journal.counts l.w) l.standing.ended;
  few : l.standing.ran + job_count (drop l.wave-index l.waves) ≤ 16;
  counts : CountsGrow (g.W.Journal.counts l.fn.w) (g.W.Journal.counts l.w);
  waits : (g.W.Journal.counts l.w).waits ≤ (g.W.Journal.counts l.fn.w).waits + l.fn.limits.turns;
}
