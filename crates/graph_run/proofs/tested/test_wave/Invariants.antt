use Rattle.std.proofs.Common.{◌≤◌, ℕ, length, take}
use Rattle.std.specs.List.{AllByRecursion}
use Rattle.words.specs.Runnable.{IsRunnable}
use Rattle.world.specs.Counts.{DiskCause}
use Rattle.world.specs.Moments.{Since, Told}
use Rattle.graph_run.specs.Ran.{AreCaused}
use Rattle.graph_run.specs.Tests.{IsTakeRead, TestsWave}
use Rattle.graph_run.proofs.tested.test_wave.Given as goal

abbrev pub invariant-loop-job : goal.invariant-loop-job
invariant-loop-job g l = record {
  tests : Told (g.W.Journal.journal l.fn.w) (g.W.Journal.journal l.w) (λ before now. TestsWave l.fn.flow l.fn.ended before (take l.job-index l.wave) l.tested now);
  reads : Told (g.W.Journal.journal l.fn.w) (g.W.Journal.journal l.w) (Since (IsTakeRead l.fn.flow));
  runnable : AllByRecursion IsRunnable l.fn.flow.asks → AllByRecursion IsRunnable l.tested.asks;
  few : length l.tested.asks ≤ l.job-index;
  caused : (most : ℕ) → AreCaused most (g.W.Journal.counts l.fn.w) (g.W.Journal.counts l.w) l.tested.refused;
  counts : DiskCause (g.W.Journal.counts l.fn.w) (g.W.Journal.counts l.w) ⊥;
}
