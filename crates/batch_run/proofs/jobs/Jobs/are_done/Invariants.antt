use Rattle.batch_run.specs.Stands.{EndedBelow}
use Rattle.batch_run.proofs.jobs.Jobs.are_done.Given as goal

abbrev pub invariant-loop-slot : goal.invariant-loop-slot
invariant-loop-slot l = EndedBelow l.slot-index l.self.slots.items
