use Rattle.std.proofs.Common.{refl, arith}
use Rattle.std.proofs.lemmas.Option.{slice_get_read}
use Rattle.batch_run.proofs.SlotLemmas.{over_set_same, over_start}
use Rattle.batch_run.proofs.jobs.Jobs.on_ended.Goals as goal
use Rattle.jtext.proofs.Lists.{slice_get-set_other}

pub returns-then-number-len : goal.returns-then-number-len
returns-then-number-len c =
    let items = c.args.self.now.slots.items in
    let found = (slice_get_read items _ c.args.number _ refl (omega (arith, c.args.self.now.slots.ok.0)) c.index_mut.ensures.value) in
    record {
      over = over_set_same items c.args.number _ _ found c.on_ended.ensures.over;
      others = λ k ne. slice_get-set_other items c.args.number k _ ne;
      stands = λ asks start from journal counts opens s. c.on_ended.ensures.stays asks start from items c.args.number journal counts opens found s;
    }

pub returns-else-number-len-clause-over : goal.returns-else-number-len-clause-over
returns-else-number-len-clause-over c = over_start c.args.self.now.slots.items
