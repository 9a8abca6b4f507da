use Rattle.job_journal.proofs.Books.{parent_is, request_starts, request_stays}
use Rattle.job_journal.proofs.laws.used.the_request_is_the_last.Goals as goal

pub returns : goal.returns
returns c = record {
  parent = parent_is;
  starts = request_starts;
  stays = request_stays;
}
