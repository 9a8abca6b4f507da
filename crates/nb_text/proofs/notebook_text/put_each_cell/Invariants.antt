use Rattle.std.proofs.Common.{◌≡◌, ◌++◌, map, take}
use Rattle.nb_text.specs.Cells.{cell_text}
use Rattle.nb_text.specs.Notebooks.{cell_lines}
use Rattle.nb_text.proofs.notebook_text.put_each_cell.Given as goal

abbrev pub invariant-loop-i : goal.invariant-loop-i
invariant-loop-i l = l.out ≡ l.initial.out ++ cell_lines (map cell_text (take l.i l.cells))
