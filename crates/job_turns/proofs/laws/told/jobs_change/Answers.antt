use Rattle.job_turns.proofs.TellLemmas.{owed_changes}
use Rattle.job_turns.proofs.laws.told.jobs_change.Goals as goal

pub returns : goal.returns
returns c = owed_changes
