use Rattle.scrap_book.proofs.WrittenRows.{row_read, row_written}
use Rattle.scrap_book.proofs.laws.rows_in_the_written_form.Goals as goal

pub returns-clause-written : goal.returns-clause-written
returns-clause-written c = λ row name value is. row_read row name value is

pub returns-clause-only : goal.returns-clause-only
returns-clause-only c = λ row name value e. row_written row name value e
