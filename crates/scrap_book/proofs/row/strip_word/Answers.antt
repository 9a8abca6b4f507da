use Rattle.jtext.proofs.Words.{strip_exact}
use Rattle.scrap_book.proofs.row.strip_word.Goals as goal

pub returns : goal.returns
returns c = strip_exact c.args.word.now c.args.s.now c.strip_prefix.result c.strip_prefix.ensures.cases
