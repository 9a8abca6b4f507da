use Rattle.graph_run.proofs.RunLemmas.{none_left}
use Rattle.graph_run.proofs.standing.Standing.add_answers.Goals as goal

pub returns-in_default-clause-ended : goal.returns-in_default-clause-ended
returns-in_default-clause-ended c = none_left _ _ _ c.loop-job.rest.now c.in_default.ensures.cases c.loop-job.invariant.ended
