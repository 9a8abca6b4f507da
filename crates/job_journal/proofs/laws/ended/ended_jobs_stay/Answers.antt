use Rattle.job_journal.proofs.Ended.{answered_on, stopped_on}
use Rattle.job_journal.proofs.laws.ended.ended_jobs_stay.Goals as goal

pub returns : goal.returns
returns c = record {
  stopped = stopped_on;
  answered = answered_on;
}
