use Rattle.std.proofs.Common.{Some, set, ap, sym, subst, ◌∙◌}
use Rattle.batch_run.specs.Stands.{AllStand}
use Rattle.batch_run.proofs.slot.Slot.stop.Goals as goal

pub returns-clause-stands : goal.returns-clause-stands
returns-clause-stands g c = λ asks start from slots k wait closed found s.
    subst (λ slot. AllStand asks start from (set slots k slot) (g.W.Journal.journal c.end_of.new.w) (g.W.Journal.counts c.end_of.new.w)) (sym c.replace.ensures.after)
    (c.end_of.ensures asks start from slots k wait closed (found ∙ ap Some (sym c.replace-slot.ensures.value)) s)
