use Rattle.std.proofs.Common.{length}
use Rattle.world.specs.Counts.{DiskCause}
use Rattle.world.specs.Moments.{Told}
use Rattle.save_disk.specs.Entries.{Writes}
use Rattle.save_disk.proofs.writing.write_all.Given as goal

abbrev pub invariant-loop-rest : goal.invariant-loop-rest
invariant-loop-rest g l = record {
  entries : Told (g.W.Journal.journal l.fn.w) (g.W.Journal.journal l.w) (λ before now. Writes l.path l.text before l.rest now);
  cause : DiskCause (g.W.Journal.counts l.fn.w) (g.W.Journal.counts l.w) ⊥;
}

abbrev pub decreases-loop-rest : goal.decreases-loop-rest
decreases-loop-rest g l = length l.rest
