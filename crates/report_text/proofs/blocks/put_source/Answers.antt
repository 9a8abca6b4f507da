use Rattle.std.proofs.Common.{◌∙◌, ◌++◌, ap}
use Rattle.nb_model.specs.Planned.{code}
use Rattle.nb_model.specs.Tree.{kind_name}
use Rattle.report_text.specs.Page.{block_start, block_end, escaped}
use Rattle.report_text.proofs.Grown.{three}
use Rattle.report_text.proofs.blocks.put_source.Goals as goal

pub returns : goal.returns
returns c =
    three c.args.out.now (block_start (kind_name c.args.cell.now.kind)) (escaped (code c.args.cell.now)) block_end c.put_start.new.out c.put_multiline.new.out c.put_end.new.out
    (c.in_ok-put_start.ensures ∙ ap (λ k. c.args.out.now ++ block_start k) c.class_of.ensures) c.in_ok-put_multiline.ensures c.in_ok-put_end.ensures
