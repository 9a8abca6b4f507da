use Rattle.std.proofs.Common.{refl}
use Rattle.batch_run.specs.Owed.{none}
use Rattle.batch_run.specs.Stands.{owing}
use Rattle.batch_run.proofs.SlotLemmas.{over_start, over_then}
use Rattle.batch_run.proofs.jobs.Jobs.on_ends.Goals as goal

pub loop-place-init : goal.loop-place-init
loop-place-init c = record { stands = λ asks start from journal counts s. s; over = over_start c.args.self.now.slots.items }

pub loop-place-preserved : goal.loop-place-preserved
loop-place-preserved c = record {
  stands = λ asks start from journal counts s. c.end_where.ensures.stands asks start (owing none from) journal counts refl (c.loop-place.invariant.stands asks start from journal counts s);
  over = over_then c.loop-place.invariant.over c.end_where.ensures.over;
}
