use Rattle.std.proofs.Common.{refl, arith}
use Rattle.std.proofs.lemmas.List.{length-set}
use Rattle.std.proofs.lemmas.Option.{slice_get_read}
use Rattle.jtext.proofs.Lists.{slice_get-set_other}
use Rattle.batch_run.proofs.SlotLemmas.{notes_past, notes_set, over_set_same, over_start}
use Rattle.batch_run.proofs.jobs.Jobs.on_taken.Goals as goal

pub returns-then-number-len : goal.returns-then-number-len
returns-then-number-len c =
    let items = c.args.self.now.slots.items in
    let found = (slice_get_read items _ c.args.number _ refl (omega (arith, c.args.self.now.slots.ok.0)) c.index_mut.ensures.value) in
    record {
      over = over_set_same items c.args.number _ _ found c.on_taken.ensures.over;
      size = length-set items c.args.number _;
      others = λ k ne. slice_get-set_other items c.args.number k _ ne;
      taken = notes_set c.args.chan c.args.taken items c.args.number _ _ found c.on_taken.ensures.taken;
      stands = λ asks start from journal counts opens s. c.on_taken.ensures.stays asks start from items c.args.number journal counts opens found s;
    }

pub returns-else-number-len-clause-over : goal.returns-else-number-len-clause-over
returns-else-number-len-clause-over c = over_start c.args.self.now.slots.items

pub returns-else-number-len-clause-others : goal.returns-else-number-len-clause-others
returns-else-number-len-clause-others c = λ k ne. refl

pub returns-else-number-len-clause-taken : goal.returns-else-number-len-clause-taken
returns-else-number-len-clause-taken c = notes_past c.args.chan c.args.taken c.args.self.now.slots.items c.args.number (omega (arith, c.args.self.now.slots.ok.0))
