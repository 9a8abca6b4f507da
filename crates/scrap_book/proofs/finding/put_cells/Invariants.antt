use Rattle.std.proofs.Common.{◌≡◌, flat_map, take}
use Rattle.scrap_book.specs.Merging.{with_pairs}
use Rattle.scrap_book.specs.Scraps.{cell_scraps}
use Rattle.scrap_book.proofs.finding.put_cells.Given as goal

abbrev pub invariant-loop-cell : goal.invariant-loop-cell
invariant-loop-cell l = l.found ≡ with_pairs l.initial.found (flat_map cell_scraps (take l.cell-index l.cells))
