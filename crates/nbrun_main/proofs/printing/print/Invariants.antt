use Rattle.std.proofs.Common.{◌≤◌, length}
use Rattle.world.specs.Moments.{Told}
use Rattle.said_lines.specs.Speech.{Speech}
use Rattle.nbrun_main.proofs.printing.print.Given as goal

abbrev pub invariant-loop-rest : goal.invariant-loop-rest
invariant-loop-rest g l = record {
  entries : Told (g.W.Journal.journal l.fn.w) (g.W.Journal.journal l.w) (λ before now. Speech l.text before l.rest now);
  later : (g.W.Journal.counts l.fn.w).say ≤ (g.W.Journal.counts l.w).say;
}

abbrev pub decreases-loop-rest : goal.decreases-loop-rest
decreases-loop-rest g l = length l.rest
