use Rattle.std.proofs.Common.{refl, ◌≡◌, ◌<◌, ◌≤◌, length, get_or, sym, subst}
use Rattle.std.proofs.lemmas.Option.{slice_get_read}
use Rattle.batch_run.specs.Due.{IsEarliestBelow}
use Rattle.batch_run.proofs.DueLemmas.{earliest_start, earliest_all, earliest_more}
use Rattle.batch_run.proofs.jobs.Jobs.due.Goals as goal

pub loop-slot-init : goal.loop-slot-init
loop-slot-init c = earliest_start c.args.self.now.slots.items

pub loop-slot-preserved : goal.loop-slot-preserved
loop-slot-preserved c =
    let xs = c.args.self.now.slots.items in
    let n = c.loop-slot.slot-index in
    let x = c.slot-item.result in
    let value = c.deref-slot-items.ensures.value in
    let low : n < length xs = subst (λ ys. n < length ys) value c.loop-slot-test.true in
    let same : x ≡ get_or xs n x = subst (λ ys. x ≡ get_or ys n x) value c.slot-item.is in
    subst (IsEarliestBelow _ xs) (sym c.earlier-due.ensures)
    (earliest_more c.next_moment.result (slice_get_read xs _ n x refl low same) c.next_moment.ensures c.loop-slot.invariant)

pub returns : goal.returns
returns c = earliest_all (subst (λ xs. length xs ≤ c.loop-slot.slot-index) c.deref-slot-items.ensures.value c.loop-slot-test.false) c.loop-slot.invariant
