use Rattle.batch_run.specs.Stands.{IsCutOff, StayAllIf}
use Rattle.batch_run.proofs.jobs.Jobs.lose_all.Given as goal

abbrev pub invariant-loop-number : goal.invariant-loop-number
invariant-loop-number l = StayAllIf IsCutOff l.fn.self.slots.items l.self.slots.items
