use Rattle.job_run.proofs.ListenLemmas.{echoed_listens}
use Rattle.job_run.proofs.execution.Execution.hear.Goals as goal

pub returns-in-Heart-clause-listens : goal.returns-in-Heart-clause-listens
returns-in-Heart-clause-listens c = echoed_listens c.args.self.now c.hear_heart.new.self c.args.bodies.now c.hear_heart.ensures
