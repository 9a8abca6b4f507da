use Rattle.job_journal.proofs.Sources.{asked_book, asked_text}
use Rattle.job_journal.proofs.laws.saving.saves_are_of_the_notebook.Goals as goal

pub returns : goal.returns
returns c = record {
  text = asked_text;
  book = asked_book;
}
