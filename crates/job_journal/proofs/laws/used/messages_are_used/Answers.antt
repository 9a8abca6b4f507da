use Rattle.job_journal.proofs.Books.{book_takes, book_passes}
use Rattle.job_journal.proofs.laws.used.messages_are_used.Goals as goal

pub returns : goal.returns
returns c = record {
  used = book_takes;
  passed_over = book_passes;
}
