use Rattle.std.proofs.Common.{refl, arith}
use Rattle.std.proofs.lemmas.Option.{slice_get_read}
use Rattle.jtext.proofs.Lists.{slice_get-set_other}
use Rattle.batch_run.proofs.OweLemmas.{piece_past}
use Rattle.batch_run.proofs.jobs.Jobs.on_piece.Goals as goal

pub returns : goal.returns
returns g c = record {
  others = λ k ne. slice_get-set_other c.args.self.now.slots.items c.args.number k _ ne;
  stands = λ asks start from s.
      let items = c.args.self.now.slots.items in
      c.on_piece.ensures asks start from items c.args.number (slice_get_read items _ c.args.number _ refl (omega (arith, c.args.self.now.slots.ok.0)) c.index_mut.ensures.value) s;
}

pub returns-then-number-len-clause-stands : goal.returns-then-number-len-clause-stands
returns-then-number-len-clause-stands g c = λ asks start from s. piece_past asks start from c.args.number c.args.chan c.args.piece.now (omega (arith, c.args.self.now.slots.ok.0)) s
