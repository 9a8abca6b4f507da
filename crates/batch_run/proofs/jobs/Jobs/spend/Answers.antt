use Rattle.std.proofs.Common.{refl, arith}
use Rattle.std.proofs.lemmas.Option.{slice_get_read}
use Rattle.batch_run.proofs.jobs.Jobs.spend.Goals as goal

pub returns : goal.returns
returns c = record {
  stands = λ asks start from journal counts why opens s.
      let items = c.args.self.now.slots.items in
      c.spend.ensures asks start from items c.args.number journal counts why opens (slice_get_read items _ c.args.number _ refl (omega (arith, c.args.self.now.slots.ok.0)) c.index_mut.ensures.value) s;
}
