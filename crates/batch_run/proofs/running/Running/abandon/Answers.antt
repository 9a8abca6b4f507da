use Rattle.batch_run.specs.Owed.{unknown}
use Rattle.batch_run.specs.Stands.{owing, served_by}
use Rattle.std.proofs.Common.{refl, ◌∙◌, arith}
use Rattle.batch_run.proofs.SlotLemmas.{ended_all}
use Rattle.batch_run.proofs.running.Running.abandon.Goals as goal

pub loop-number-preserved : goal.loop-number-preserved
loop-number-preserved g c = record {
  left = c.close.ensures.left.kept.waits ∙ c.loop-number.invariant.left;
  stands = λ asks start from s.
      c.abandon.ensures.stands asks start (served_by unknown c.close.new.self.connections from) refl c.close.ensures.closed
      (c.close.ensures.stands asks start (owing unknown from) c.loop-number.self.jobs.slots.items refl (c.loop-number.invariant.stands asks start from s));
  ended = c.abandon.ensures.ended c.loop-number.invariant.ended;
  size = c.abandon.ensures.size ∙ c.loop-number.invariant.size;
}

pub returns-clause-ended : goal.returns-clause-ended
returns-clause-ended g c = ended_all (omega (arith, c.loop-number.invariant.size, c.len-number-end.ensures.is)) c.loop-number.invariant.ended
