use Rattle.job_turns.proofs.WaitLemmas.{ended_waits, fresh_waits, owed_waits}
use Rattle.job_turns.proofs.laws.waiting.jobs_wait.Goals as goal

pub returns : goal.returns
returns c = record { stands = owed_waits; ended = ended_waits; fresh = fresh_waits }
