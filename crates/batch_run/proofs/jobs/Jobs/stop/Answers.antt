use Rattle.std.proofs.Common.{refl, arith}
use Rattle.std.proofs.lemmas.Option.{slice_get_read}
use Rattle.batch_run.proofs.SlotLemmas.{ended_past, gone_past, gone_set}
use Rattle.batch_run.proofs.jobs.Jobs.stop.Goals as goal

pub returns-then-number-len-clause-stands : goal.returns-then-number-len-clause-stands
returns-then-number-len-clause-stands g c = λ asks start from wait closed s.
    let items = c.args.self.now.slots.items in
    c.stop.ensures.stands asks start from items c.args.number wait closed (slice_get_read items _ c.args.number _ refl (omega (arith, c.args.self.now.slots.ok.0)) c.index_mut.ensures.value) s

pub returns-else-number-len-clause-ended : goal.returns-else-number-len-clause-ended
returns-else-number-len-clause-ended g c = λ b. ended_past (omega (arith, c.args.self.now.slots.ok.0)) b

pub returns-then-number-len-clause-gone : goal.returns-then-number-len-clause-gone
returns-then-number-len-clause-gone g c = gone_set c.args.self.now.slots.items c.args.number _ (omega (arith, c.args.self.now.slots.ok.0)) c.stop.ensures.ended

pub returns-else-number-len-clause-gone : goal.returns-else-number-len-clause-gone
returns-else-number-len-clause-gone g c = gone_past c.args.self.now.slots.items c.args.number (omega (arith, c.args.self.now.slots.ok.0))
