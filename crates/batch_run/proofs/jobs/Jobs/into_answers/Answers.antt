use Rattle.std.proofs.Common.{inl, inr, length, arith}
use Rattle.std.proofs.lemmas.Bool.{cases_lt}
use Rattle.std.proofs.lemmas.Bool.Decides.{nat_tests}
use Rattle.std.proofs.lemmas.List.{length_push}
use Rattle.batch_run.proofs.SlotLemmas.{answers_after, answers_still}
use Rattle.batch_run.proofs.jobs.Jobs.into_answers.Goals as goal

pub loop-slot-preserved : goal.loop-slot-preserved
loop-slot-preserved c =
    let given = c.loop-slot.yielded in
    let next = c.in-Some.slot in
    let held = c.loop-slot.invariant in
    let made = c.in_ok-push_where.ensures in
    record {
      number = omega (arith, held.number, length_push given next);
      answers = elim (cases_lt (length given) c.args.first) [
        | inl low ↦ answers_still c.args.first given next c.loop-slot.answers c.push_where.new.answers low held.answers (made.other (grind (arith, nat_tests, held.number, low)))
        | inr high ↦ answers_after c.args.first given next c.loop-slot.answers c.push_where.new.answers high held.answers (made.own (grind (arith, nat_tests, held.number, high)))
      ];
    }
