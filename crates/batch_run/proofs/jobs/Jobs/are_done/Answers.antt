use Rattle.std.proofs.Common.{refl, ◌≡◌, ◌<◌, ◌≤◌, length, get_or, sym, subst}
use Rattle.std.proofs.lemmas.Option.{slice_get_read}
use Rattle.batch_run.specs.Stands.{HasEnded}
use Rattle.batch_run.proofs.SlotLemmas.{ended_start, ended_all, ended_more}
use Rattle.batch_run.proofs.jobs.Jobs.are_done.Goals as goal

pub loop-slot-init : goal.loop-slot-init
loop-slot-init c = ended_start c.args.self.now.slots.items

pub loop-slot-preserved : goal.loop-slot-preserved
loop-slot-preserved c =
    let n = c.loop-slot.slot-index in
    let x = c.slot-item.result in
    let value = c.deref-slot-items.ensures.value in
    let low : n < length c.args.self.now.slots.items = subst (λ xs. n < length xs) value c.loop-slot-test.true in
    let same : x ≡ get_or c.args.self.now.slots.items n x = subst (λ xs. x ≡ get_or xs n x) value c.slot-item.is in
    ended_more (slice_get_read c.args.self.now.slots.items _ n x refl low same) (subst HasEnded (sym c.in-Ended.is) tt) c.loop-slot.invariant

pub returns : goal.returns
returns c = λ e. ended_all (subst (λ xs. length xs ≤ c.loop-slot.slot-index) c.deref-slot-items.ensures.value c.loop-slot-test.false) c.loop-slot.invariant
