use Rattle.std.proofs.Common.{subst, arith}
use Rattle.std.proofs.lemmas.Grind.{common_steps}
use Rattle.world.proofs.MomentsLemmas.{told_start, told_one, told_as}
use Rattle.said_lines.specs.Speech.{Speech, none, more}
use Rattle.nbrun_main.specs.Printed.{whole, cut}
use Rattle.world.proofs.Rests.{whole_rest, no_rest}
use Rattle.nbrun_main.proofs.printing.print.Goals as goal

pub loop-rest-init : goal.loop-rest-init
loop-rest-init g c = record { entries = told_start (λ before. none); later = grind (arith, common_steps) }

pub loop-rest-preserved : goal.loop-rest-preserved
loop-rest-preserved g c =
    record {
      entries = told_one c.loop-rest.invariant.entries c.in-Took.ensures.tells (λ x y speech. rw whole_rest (more c.in-Took.n speech));
      later = grind (arith, common_steps);
    }

pub returns-in-Failed-clause-prints : goal.returns-in-Failed-clause-prints
returns-in-Failed-clause-prints g c = told_one c.loop-rest.invariant.entries c.in-Failed.ensures.tells (λ x y speech. cut speech)

pub returns-clause-prints : goal.returns-clause-prints
returns-clause-prints g c = told_as c.loop-rest.invariant.entries (λ x y speech.
    whole (subst (λ rest. Speech c.args.text.now x rest y) (no_rest c.loop-rest.rest.now c.loop-rest-test.ensures) speech))
