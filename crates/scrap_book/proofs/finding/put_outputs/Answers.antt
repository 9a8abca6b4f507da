use Rattle.scrap_book.specs.Scraps.{output_scraps}
use Rattle.scrap_book.proofs.MergingLemmas.{each_more}
use Rattle.scrap_book.proofs.finding.put_outputs.Goals as goal

pub loop-output-preserved : goal.loop-output-preserved
loop-output-preserved c =
    each_more output_scraps c.args.outputs.now c.loop-output.output-index c.output-item.result c.args.found.now c.loop-output.found c.put_output.new.found
    c.loop-output-test.true c.output-item.is c.loop-output.invariant c.in_ok-put_output.ensures
