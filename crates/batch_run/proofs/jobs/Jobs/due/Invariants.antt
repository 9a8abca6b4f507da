use Rattle.batch_run.specs.Due.{IsEarliestBelow}
use Rattle.batch_run.proofs.jobs.Jobs.due.Given as goal

abbrev pub invariant-loop-slot : goal.invariant-loop-slot
invariant-loop-slot l = IsEarliestBelow l.slot-index l.self.slots.items l.due
