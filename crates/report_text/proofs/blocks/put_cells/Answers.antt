use Rattle.std.proofs.Common.{◌∙◌, ◌++◌, ap}
use Rattle.std.specs.List.{flat_map}
use Rattle.nb_model.specs.Planned.{code}
use Rattle.nb_model.specs.Tree.{kind_name}
use Rattle.report_text.specs.Page.{block, cell_blocks, output_block, shown_outputs}
use Rattle.report_text.proofs.Grown.{two, each_more}
use Rattle.report_text.proofs.blocks.put_cells.Goals as goal

pub loop-cell-preserved : goal.loop-cell-preserved
loop-cell-preserved c =
    let cell = c.cell-item.result in
    each_more cell_blocks c.args.cells.now c.loop-cell.cell-index c.cell-item.result c.args.out.now c.loop-cell.out c.put_outputs.new.out
    c.loop-cell-test.true c.cell-item.is c.loop-cell.invariant
    (two c.loop-cell.out (block (kind_name cell.kind) (code cell)) (flat_map output_block (shown_outputs cell.kind cell.outputs)) c.put_source.new.out c.put_outputs.new.out
    c.in_ok-put_source.ensures (c.in_ok-put_outputs.ensures ∙ ap (λ os. c.put_source.new.out ++ flat_map output_block os) c.shown_outputs.ensures))
