use Rattle.std.proofs.Common.{refl, arith}
use Rattle.std.proofs.lemmas.Option.{slice_get_read}
use Rattle.batch_run.proofs.SlotLemmas.{changes_set, changes_start, over_set_same, over_start}
use Rattle.batch_run.proofs.jobs.Jobs.hand_out.Goals as goal

pub returns : goal.returns
returns c =
    let items = c.args.self.now.slots.items in
    let found = (slice_get_read items _ c.args.number _ refl (omega (arith, c.args.self.now.slots.ok.0)) c.index_mut.ensures.value) in
    record {
      at = changes_set items c.args.number _ _ found c.hand_out.ensures.runs;
      over = over_set_same items c.args.number _ _ found c.hand_out.ensures.over;
      stands = λ asks start from journal counts opens s. c.hand_out.ensures.stays asks start from items c.args.number journal counts opens found s;
    }

pub returns-then-number-len-clause-at : goal.returns-then-number-len-clause-at
returns-then-number-len-clause-at c = changes_start c.args.number c.args.self.now.slots.items

pub returns-then-number-len-clause-over : goal.returns-then-number-len-clause-over
returns-then-number-len-clause-over c = over_start c.args.self.now.slots.items
