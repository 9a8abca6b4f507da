use Rattle.job_turns.proofs.TellLemmas.{owed_first}
use Rattle.job_turns.proofs.laws.told.jobs_have_begun.Goals as goal

pub returns : goal.returns
returns c = record { begun = owed_first }
