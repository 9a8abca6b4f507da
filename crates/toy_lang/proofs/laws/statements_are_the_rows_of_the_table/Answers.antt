use Rattle.toy_lang.proofs.Rows.{row_read, read_row}
use Rattle.toy_lang.proofs.laws.statements_are_the_rows_of_the_table.Goals as goal

pub returns : goal.returns
returns c = λ line word expression verb. (read_row line (verb, word, expression), row_read verb word expression line)
