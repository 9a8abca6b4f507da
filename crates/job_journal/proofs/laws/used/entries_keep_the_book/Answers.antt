use Rattle.job_journal.proofs.Books.{book_begins, book_ends, book_stays, book_starts}
use Rattle.job_journal.proofs.laws.used.entries_keep_the_book.Goals as goal

pub returns : goal.returns
returns c = record {
  first = book_begins;
  last = book_ends;
  quiet = book_stays;
  begun = book_starts;
}
