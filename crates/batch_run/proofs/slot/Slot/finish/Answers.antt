use Rattle.std.proofs.Common.{Some, set, ap, sym, subst, ◌∙◌}
use Rattle.std.specs.Prelude.{IfSome}
use Rattle.said_lines.specs.Between.{SayFailed}
use Rattle.batch_run.specs.Stands.{AllStand, SaysEndOf, is_slot_running}
use Rattle.batch_run.proofs.slot.Slot.finish.Goals as goal

pub returns-clause-stands : goal.returns-clause-stands
returns-clause-stands g c = λ asks start from slots k wait closed found s.
    subst (λ slot. AllStand asks start from (set slots k slot) (g.W.Journal.journal c.end_and_say.new.w) (g.W.Journal.counts c.end_and_say.new.w)) (sym c.replace.ensures.after)
    (c.end_and_say.ensures.keeps asks start from slots k wait closed (found ∙ ap Some (sym c.replace-slot.ensures.value)) s)

pub returns-clause-said : goal.returns-clause-said
returns-clause-said g c = λ ran.
    subst (λ slot. IfSome (g.W.Journal.journal c.end_and_say.new.w) (SaysEndOf (Some slot) (SayFailed g.W.Journal.counts c.end_and_say.new.w))) (sym c.replace.ensures.after)
    (c.end_and_say.ensures.said (ap (λ slot. is_slot_running (Some slot)) c.replace-slot.ensures.value ∙ ran))
