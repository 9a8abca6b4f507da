use Rattle.report_text.specs.Page.{output_block}
use Rattle.report_text.proofs.Grown.{each_more}
use Rattle.report_text.proofs.blocks.put_outputs.Goals as goal

pub loop-output-preserved : goal.loop-output-preserved
loop-output-preserved c =
    each_more output_block c.args.outputs.now c.loop-output.output-index c.output-item.result c.args.out.now c.loop-output.out c.put_block.new.out
    c.loop-output-test.true c.output-item.is c.loop-output.invariant c.in_ok-put_block.ensures
