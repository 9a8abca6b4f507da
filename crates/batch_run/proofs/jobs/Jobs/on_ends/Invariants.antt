use Rattle.batch_run.specs.Stands.{SameOver, StayAll}
use Rattle.batch_run.proofs.jobs.Jobs.on_ends.Given as goal

abbrev pub invariant-loop-place : goal.invariant-loop-place
invariant-loop-place l = record {
  stands : StayAll l.fn.self.slots.items l.self.slots.items;
  over : SameOver l.fn.self.slots.items l.self.slots.items;
}
