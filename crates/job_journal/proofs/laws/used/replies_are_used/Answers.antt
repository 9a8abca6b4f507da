use Rattle.job_journal.proofs.Books.{book_replies, book_ignores}
use Rattle.job_journal.proofs.laws.used.replies_are_used.Goals as goal

pub returns : goal.returns
returns c = record {
  used = book_replies;
  passed_over = book_ignores;
}
