use Rattle.std.proofs.Common.{rules, arith, sym, subst}
use Rattle.std.proofs.lemmas.Bool.Decides.{nat_tests}
use Rattle.batch_run.specs.Stands.{EndedBelow, WaitingFrom}
use Rattle.batch_run.proofs.SlotLemmas.{ended_push, waiting_push}
use Rattle.batch_run.proofs.jobs.Jobs.new.Goals as goal

pub loop-slots-preserved : goal.loop-slots-preserved
loop-slots-preserved c = record {
  few = search rules;
  ended = subst (EndedBelow c.args.first) (sym c.in_ok-push.ensures.items) (ended_push c.new.result (λ low. c.new.ensures.ended (grind (arith, nat_tests, low, c.len-in-loop-slots.ensures))) c.loop-slots.invariant.ended);
  waiting = subst (WaitingFrom c.args.first) (sym c.in_ok-push.ensures.items) (waiting_push c.new.result (λ low. c.new.ensures.waiting (grind (arith, nat_tests, low, c.len-in-loop-slots.ensures))) c.loop-slots.invariant.waiting);
}
