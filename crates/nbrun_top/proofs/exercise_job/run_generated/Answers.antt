use Rattle.nbrun_top.proofs.GeneratedLemmas.{is_tally}
use Rattle.nbrun_top.proofs.exercise_job.run_generated.Goals as goal

pub returns : goal.returns
returns c = is_tally _ _ _ _ c.in_ok-v.ensures.near c.exercise.ensures
