use Rattle.std.proofs.Common.{codes, replicate, arith}
use Rattle.std.proofs.lemmas.Bool.Decides.{nat_tests}
use Rattle.nb_text.proofs.Texts.{list_line}
use Rattle.nb_text.proofs.cell_lines.put_outputs.Goals as goal

pub returns : goal.returns
returns c =
    list_line (replicate 3 32) _ _ _ _ _ (codes "outputs") c.args.outputs.now (grind (arith, nat_tests, c.is_empty.ensures, c.if-is_empty.false)) c.in_ok-put_line.ensures c.in_ok-put_items.ensures c.in_ok-new_line.ensures c.in_ok-add.ensures.ok
