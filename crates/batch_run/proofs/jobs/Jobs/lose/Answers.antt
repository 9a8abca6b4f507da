use Rattle.std.proofs.Common.{refl, arith}
use Rattle.std.proofs.lemmas.Option.{slice_get_read}
use Rattle.batch_run.proofs.jobs.Jobs.lose.Goals as goal
use Rattle.jtext.proofs.Lists.{slice_get-set_other}

pub returns-clause-stands : goal.returns-clause-stands
returns-clause-stands c = λ asks start from journal counts why opens s.
    let items = c.args.self.now.slots.items in
    c.lose.ensures asks start from items c.args.number journal counts why opens (slice_get_read items _ c.args.number _ refl (omega (arith, c.args.self.now.slots.ok.0)) c.index_mut.ensures.value) s

pub returns-clause-others : goal.returns-clause-others
returns-clause-others c = λ k ne. slice_get-set_other c.args.self.now.slots.items c.args.number k _ ne
