use Rattle.std.proofs.Common.{◌≡◌, ◌++◌, string_bytes, flat_map, take}
use Rattle.report_text.specs.Script.{cell_text}
use Rattle.report_text.proofs.writing.put_cells.Given as goal

abbrev pub invariant-loop-cell : goal.invariant-loop-cell
invariant-loop-cell l = string_bytes l.out ≡ string_bytes l.initial.out ++ flat_map cell_text (take l.cell-index l.cells)
