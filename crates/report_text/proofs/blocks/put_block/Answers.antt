use Rattle.std.proofs.Common.{◌∙◌, ◌++◌, ap}
use Rattle.report_text.specs.Page.{block_start, block_end, escaped, output_class, output_text}
use Rattle.report_text.proofs.Grown.{three}
use Rattle.report_text.proofs.blocks.put_block.Goals as goal

pub returns : goal.returns
returns c =
    three c.args.out.now (block_start (output_class c.args.output.now)) (escaped (output_text c.args.output.now)) block_end c.put_start.new.out c.put_output.new.out c.put_end.new.out
    (c.in_ok-put_start.ensures ∙ ap (λ k. c.args.out.now ++ block_start k) c.output_class.ensures) c.in_ok-put_output.ensures c.in_ok-put_end.ensures
