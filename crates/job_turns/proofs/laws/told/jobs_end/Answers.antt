use Rattle.job_turns.proofs.TellLemmas.{owed_ended}
use Rattle.job_turns.proofs.laws.told.jobs_end.Goals as goal

pub returns : goal.returns
returns c = owed_ended
