use Rattle.std.proofs.Common.{arith}
use Rattle.std.proofs.lemmas.Bool.Decides.{nat_tests}
use Rattle.nb_text.proofs.Texts.{texts_line}
use Rattle.nb_text.proofs.notebook_text.put_texts.Goals as goal

pub returns : goal.returns
returns c =
    texts_line c.args.out.now _ _ _ _ c.args.texts.now (grind (arith, nat_tests, c.is_empty.ensures, c.if-is_empty.false))
    c.in_ok-put_line.ensures c.in_ok-put_each_text.ensures c.in_ok-new_line.ensures c.in_ok-add.ensures.ok
