use Rattle.batch_run.proofs.SlotLemmas.{over_start}
use Rattle.batch_run.proofs.jobs.Jobs.end_where.Goals as goal

pub returns-else-has_ended-clause-over : goal.returns-else-has_ended-clause-over
returns-else-has_ended-clause-over c = over_start c.args.self.now.slots.items
