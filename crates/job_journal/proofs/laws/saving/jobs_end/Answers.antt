use Rattle.job_journal.proofs.Ending.{ends_coming, ends_sending, ends_standing, ends_within}
use Rattle.job_journal.proofs.laws.saving.jobs_end.Goals as goal

pub returns : goal.returns
returns c = record {
  standing = ends_standing;
  sending = ends_sending;
  within = ends_within;
  coming = ends_coming;
}
