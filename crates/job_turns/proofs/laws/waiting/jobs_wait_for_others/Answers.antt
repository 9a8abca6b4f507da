use Rattle.job_turns.proofs.WaitLemmas.{ended_waits_for, first_waits_for, fresh_waits_for, owed_waits_for}
use Rattle.job_turns.proofs.laws.waiting.jobs_wait_for_others.Goals as goal

pub returns : goal.returns
returns g = record {
  stands = owed_waits_for;
  first = first_waits_for;
  ended = ended_waits_for;
  fresh = fresh_waits_for;
}
