use Rattle.std.proofs.Common.{map, arith}
use Rattle.std.proofs.lemmas.Bool.Decides.{nat_tests}
use Rattle.nb_text.specs.Cells.{cell_text}
use Rattle.nb_text.proofs.Texts.{texts_line, some_items}
use Rattle.nb_text.proofs.notebook_text.put_cells.Goals as goal

pub returns : goal.returns
returns c =
    texts_line c.args.out.now _ _ _ _ (map cell_text c.args.cells.now) (some_items cell_text c.args.cells.now (grind (arith, nat_tests, c.is_empty.ensures, c.if-is_empty.false)))
    c.in_ok-put_line.ensures c.in_ok-put_each_cell.ensures c.in_ok-new_line.ensures c.in_ok-add.ensures.ok
