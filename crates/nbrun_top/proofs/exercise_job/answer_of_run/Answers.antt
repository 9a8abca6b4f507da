use Rattle.nbrun_top.specs.Exercise.{ask}
use Rattle.nbrun_top.proofs.GeneratedLemmas.{one_ask, one_job}
use Rattle.nbrun_top.proofs.exercise_job.answer_of_run.Goals as goal

pub returns-clause-job : goal.returns-clause-job
returns-clause-job g c =
    one_job _ ask _ _ _ _ _ _ (one_ask _ _ _ ask c.in_ok-push.ensures.ok c.new-asks.ensures c.in_ok-ask.ensures.is) c.take.ensures.item
    c.in_ok-answers.ensures.jobs
