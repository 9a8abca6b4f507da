use Rattle.std.proofs.Common.{arith}
use Rattle.std.proofs.lemmas.Grind.{common_steps}
use Rattle.world.proofs.MomentsLemmas.{told_start, told_one}
use Rattle.save_disk.specs.Entries.{none, more}
use Rattle.world.proofs.Rests.{whole_rest}
use Rattle.save_disk.proofs.writing.write_all.Goals as goal

pub loop-rest-init : goal.loop-rest-init
loop-rest-init g c = record { entries = told_start (λ before. none); cause = grind (arith, common_steps) }

pub loop-rest-preserved : goal.loop-rest-preserved
loop-rest-preserved g c =
    record {
      entries = told_one c.loop-rest.invariant.entries c.in-Took.ensures.tells (λ x y r.
          rw whole_rest (more c.in-Took.n r));
      cause = grind (arith, common_steps);
    }
