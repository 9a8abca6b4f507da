use Rattle.std.proofs.Common.{◌∙◌, ap}
use Rattle.std.specs.List.{flat_map}
use Rattle.scrap_book.specs.Merging.{with_pairs}
use Rattle.scrap_book.specs.Scraps.{cell_scraps, output_scraps}
use Rattle.scrap_book.proofs.MergingLemmas.{each_more}
use Rattle.scrap_book.proofs.finding.put_cells.Goals as goal

pub loop-cell-preserved : goal.loop-cell-preserved
loop-cell-preserved c =
    each_more cell_scraps c.args.cells.now c.loop-cell.cell-index c.cell-item.result c.args.found.now c.loop-cell.found c.put_outputs.new.found
    c.loop-cell-test.true c.cell-item.is c.loop-cell.invariant
    (c.in_ok-put_outputs.ensures ∙ ap (λ os. with_pairs c.loop-cell.found (flat_map output_scraps os)) c.as_slice.ensures)
