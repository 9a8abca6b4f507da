use Rattle.run_journal.proofs.Hearing.{none_unready}
use Rattle.job_journal.proofs.Books.{still_used}
use Rattle.job_journal.proofs.laws.starting.earlier_requests_stay.Goals as goal

pub returns : goal.returns
returns c = record {
  unready = none_unready;
  used = still_used;
}
