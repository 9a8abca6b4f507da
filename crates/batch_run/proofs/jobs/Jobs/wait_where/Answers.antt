use Rattle.batch_run.proofs.SlotLemmas.{over_start}
use Rattle.batch_run.proofs.jobs.Jobs.wait_where.Goals as goal

pub returns-else-was_made-clause-over : goal.returns-else-was_made-clause-over
returns-else-was_made-clause-over c = over_start c.args.self.now.slots.items
