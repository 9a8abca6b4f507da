use Rattle.std.proofs.Common.{◌≡◌, ◌++◌, flat_map, take}
use Rattle.report_text.specs.Page.{cell_blocks}
use Rattle.report_text.proofs.blocks.put_cells.Given as goal

abbrev pub invariant-loop-cell : goal.invariant-loop-cell
invariant-loop-cell l = l.out ≡ l.initial.out ++ flat_map cell_blocks (take l.cell-index l.cells)
