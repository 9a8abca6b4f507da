use Rattle.std.proofs.Common.{refl, subst, arith}
use Rattle.std.proofs.lemmas.Grind.{common_steps}
use Rattle.world.proofs.MomentsLemmas.{told_start, told_one, told_as}
use Rattle.said_lines.specs.Speech.{Speech, none, more, whole, cut, refused}
use Rattle.world.proofs.Rests.{whole_rest, no_rest}
use Rattle.said_lines.proofs.SpeechLemmas.{rose_above}
use Rattle.said_lines.proofs.voice.say_while_heard.Goals as goal

pub loop-rest-init : goal.loop-rest-init
loop-rest-init g c = record { entries = told_start (λ before. none); cause = grind (arith, common_steps) }

pub returns-then-say_faults-gt0-clause-tells : goal.returns-then-say_faults-gt0-clause-tells
returns-then-say_faults-gt0-clause-tells g c = told_as c.loop-rest.invariant.entries (λ x y speech. cut (omega (arith, c.if-say_faults-gt0.true, c.say_faults.ensures.is)) speech)

pub loop-rest-preserved : goal.loop-rest-preserved
loop-rest-preserved g c =
    record {
      entries = told_one c.loop-rest.invariant.entries c.in-Took.ensures.tells (λ x y speech. rw whole_rest (more c.in-Took.n speech));
      cause = grind (arith, common_steps);
    }

pub returns-in-Failed-clause-tells : goal.returns-in-Failed-clause-tells
returns-in-Failed-clause-tells g c =
    let rose = rose_above (g.W.Journal.counts c.loop-rest.w).say (g.W.Journal.counts c.write.new.self).say (c.in-Failed.ensures.cause.say.cause refl) in
    told_one c.loop-rest.invariant.entries c.in-Failed.ensures.tells (λ x y speech. refused rose speech)

pub returns-clause-tells : goal.returns-clause-tells
returns-clause-tells g c = told_as c.loop-rest.invariant.entries (λ x y speech.
    whole (subst (λ rest. Speech c.args.text.now x rest y) (no_rest c.loop-rest.rest.now c.loop-rest-test.ensures) speech))
