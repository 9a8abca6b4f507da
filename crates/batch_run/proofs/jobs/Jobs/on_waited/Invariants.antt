use Rattle.batch_run.specs.Stands.{SameOver, StayAll}
use Rattle.batch_run.proofs.jobs.Jobs.on_waited.Given as goal

abbrev pub invariant-loop-number : goal.invariant-loop-number
invariant-loop-number l = record {
  stands : StayAll l.fn.self.slots.items l.self.slots.items;
  over : SameOver l.fn.self.slots.items l.self.slots.items;
}
