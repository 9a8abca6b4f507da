use Rattle.std.proofs.Common.{refl, arith}
use Rattle.std.proofs.lemmas.Option.{slice_get_read}
use Rattle.jtext.proofs.Lists.{slice_get-set_other}
use Rattle.batch_run.proofs.OweLemmas.{reads_past}
use Rattle.batch_run.proofs.SlotLemmas.{over_set_same, over_start}
use Rattle.batch_run.proofs.jobs.Jobs.read_clock.Goals as goal

pub returns-then-number-len : goal.returns-then-number-len
returns-then-number-len c =
    let items = c.args.self.now.slots.items in
    let found = (slice_get_read items _ c.args.number _ refl (omega (arith, c.args.self.now.slots.ok.0)) c.index_mut.ensures.value) in
    record {
      over = over_set_same items c.args.number _ _ found c.read_clock.ensures.over;
      others = λ k ne. slice_get-set_other items c.args.number k _ ne;
      stands = λ asks start from journal counts at s. c.read_clock.ensures.reads asks start from items c.args.number journal counts at found s;
    }

pub returns-else-number-len-clause-over : goal.returns-else-number-len-clause-over
returns-else-number-len-clause-over c = over_start c.args.self.now.slots.items

pub returns-else-number-len-clause-stands : goal.returns-else-number-len-clause-stands
returns-else-number-len-clause-stands c = λ asks start from journal counts at s. reads_past asks start from c.args.number (omega (arith, c.args.self.now.slots.ok.0)) s
