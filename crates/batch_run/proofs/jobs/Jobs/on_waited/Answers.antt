use Rattle.std.proofs.Common.{refl}
use Rattle.batch_run.specs.Owed.{none}
use Rattle.batch_run.specs.Stands.{owing}
use Rattle.batch_run.proofs.SlotLemmas.{over_start, over_then}
use Rattle.batch_run.proofs.jobs.Jobs.on_waited.Goals as goal

pub loop-number-init : goal.loop-number-init
loop-number-init c = record { stands = λ asks start from journal counts s. s; over = over_start c.args.self.now.slots.items }

pub loop-number-preserved : goal.loop-number-preserved
loop-number-preserved c = record {
  stands = λ asks start from journal counts s. c.wait_where.ensures.stands asks start (owing none from) journal counts refl (c.loop-number.invariant.stands asks start from journal counts s);
  over = over_then c.loop-number.invariant.over c.wait_where.ensures.over;
}
