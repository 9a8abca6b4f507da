use Rattle.job_journal.proofs.Ended.{stops_by_other, stops_by_save}
use Rattle.job_journal.proofs.laws.ended.jobs_stop.Goals as goal

pub returns : goal.returns
returns c = record {
  other = stops_by_other;
  saved = stops_by_save;
}
