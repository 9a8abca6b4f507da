use Rattle.nb_text.proofs.Texts.{cell_done}
use Rattle.nb_text.proofs.cell_lines.put_cell.Goals as goal

pub returns : goal.returns
returns c = cell_done c.args.cell.now c.args.out.now _ _ _ _ c.in_ok-add.ensures.ok c.in_ok-put_pairs.ensures c.in_ok-new_line.ensures c.in_ok-add-2.ensures.ok
