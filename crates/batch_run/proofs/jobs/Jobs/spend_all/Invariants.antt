use Rattle.batch_run.specs.Stands.{IsOutOfWaits, StayAllIf}
use Rattle.batch_run.proofs.jobs.Jobs.spend_all.Given as goal

abbrev pub invariant-loop-number : goal.invariant-loop-number
invariant-loop-number l = StayAllIf IsOutOfWaits l.fn.self.slots.items l.self.slots.items
