use Rattle.job_journal.proofs.Books.{book_rests, book_replied}
use Rattle.job_journal.proofs.laws.used.ended_requests_use_no_more.Goals as goal

pub returns : goal.returns
returns c = record {
  iopub = book_rests;
  shell = book_replied;
}
