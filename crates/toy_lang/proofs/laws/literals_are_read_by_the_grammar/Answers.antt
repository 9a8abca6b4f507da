use Rattle.std.specs.Str.{chars}
use Rattle.toy_lang.proofs.LiteralsRead.{literal_read}
use Rattle.toy_lang.proofs.LiteralsSpelled.{literal_spelled}
use Rattle.toy_lang.proofs.laws.literals_are_read_by_the_grammar.Goals as goal

pub returns : goal.returns
returns c = λ literal text. (literal_spelled text (chars literal), literal_read text (chars literal))
