use Rattle.std.proofs.Common.{refl, arith, sym, ap, ◌∙◌}
use Rattle.std.specs.Prelude.{IfSome}
use Rattle.jtext.proofs.Lists.{slice_get-set_other}
use Rattle.said_lines.specs.Between.{SayFailed}
use Rattle.batch_run.specs.Stands.{SaysEndOf, is_slot_running}
use Rattle.std.proofs.lemmas.Option.{slice_get_read}
use Rattle.batch_run.proofs.SlotLemmas.{at_set, ended_past, gone_past, gone_set, over_past, over_set, running_within}
use Rattle.batch_run.proofs.jobs.Jobs.finish.Goals as goal

pub returns-then-number-len-clause-stands : goal.returns-then-number-len-clause-stands
returns-then-number-len-clause-stands g c = λ asks start from wait closed s.
    let items = c.args.self.now.slots.items in
    c.finish.ensures.stands asks start from items c.args.number wait closed (slice_get_read items _ c.args.number _ refl (omega (arith, c.args.self.now.slots.ok.0)) c.index_mut.ensures.value) s

pub returns-else-number-len-clause-ended : goal.returns-else-number-len-clause-ended
returns-else-number-len-clause-ended g c = λ b. ended_past (omega (arith, c.args.self.now.slots.ok.0)) b

pub returns-then-number-len-clause-over : goal.returns-then-number-len-clause-over
returns-then-number-len-clause-over g c = over_set c.args.self.now.slots.items c.args.number _ (omega (arith, c.args.self.now.slots.ok.0)) c.finish.ensures.ended

pub returns-then-number-len-clause-others : goal.returns-then-number-len-clause-others
returns-then-number-len-clause-others g c = λ k ne. slice_get-set_other c.args.self.now.slots.items c.args.number k _ ne

pub returns-then-number-len-clause-said : goal.returns-then-number-len-clause-said
returns-then-number-len-clause-said g c = λ ran.
    let items = c.args.self.now.slots.items in
    at_set (λ o. IfSome (g.W.Journal.journal c.finish.new.w) (SaysEndOf o (SayFailed g.W.Journal.counts c.finish.new.w))) items c.args.number _ (omega (arith, c.args.self.now.slots.ok.0))
    (c.finish.ensures.said (sym (ap is_slot_running (slice_get_read items _ c.args.number _ refl (omega (arith, c.args.self.now.slots.ok.0)) c.index_mut.ensures.value)) ∙ ran))

pub returns-else-number-len-clause-over : goal.returns-else-number-len-clause-over
returns-else-number-len-clause-over g c = over_past c.args.self.now.slots.items c.args.number (omega (arith, c.args.self.now.slots.ok.0))

pub returns-else-number-len-clause-others : goal.returns-else-number-len-clause-others
returns-else-number-len-clause-others g c = λ k ne. refl

pub returns-else-number-len-clause-said : goal.returns-else-number-len-clause-said
returns-else-number-len-clause-said g c = λ ran.
    let low = running_within c.args.self.now.slots.items c.args.number ran in
    absurd (omega (arith, low, c.args.self.now.slots.ok.0))

pub returns-then-number-len-clause-gone : goal.returns-then-number-len-clause-gone
returns-then-number-len-clause-gone g c = gone_set c.args.self.now.slots.items c.args.number _ (omega (arith, c.args.self.now.slots.ok.0)) c.finish.ensures.ended

pub returns-else-number-len-clause-gone : goal.returns-else-number-len-clause-gone
returns-else-number-len-clause-gone g c = gone_past c.args.self.now.slots.items c.args.number (omega (arith, c.args.self.now.slots.ok.0))
