use Rattle.std.proofs.Common.{◌∙◌, ◌++◌, ap, codes}
use Rattle.report_text.proofs.Grown.{three}
use Rattle.report_text.proofs.blocks.put_start.Goals as goal

pub returns : goal.returns
returns c =
    three c.args.out.now (codes "<pre class=\"") c.args.class.now (codes "\">") c.add.new.self c.add-2.new.self c.add-3.new.self
    c.in_ok-add.ensures.ok (c.in_ok-add-2.ensures.ok ∙ ap (λ b. c.add.new.self ++ b) c.as_bytes.ensures.value) c.in_ok-add-3.ensures.ok
