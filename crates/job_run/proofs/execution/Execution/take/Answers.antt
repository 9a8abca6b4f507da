use Rattle.job_saves.proofs.CourseLemmas.{keeps_part}
use Rattle.job_run.proofs.execution.Execution.take.Goals as goal

pub returns-clause-calls : goal.returns-clause-calls
returns-clause-calls c cast since from j counts s = keeps_part c.args.self.now.book c.take.new.self cast since from j counts c.take.ensures.same (c.take.ensures.read c.requires.read) s
