use Rattle.std.proofs.Common.{ap, codes}
use Rattle.jtext.specs.declared.json.Json.TheVariants as json
use Rattle.out_fold.proofs.Answered.{if_ok}
use Rattle.out_fold.proofs.Objects.{of_4}
use Rattle.out_fold.proofs.tree.error_tree.Goals as goal
use Rattle.jcontent.proofs.Pairs.{keyed}

pub returns : goal.returns
returns c =
    if_ok c.object.result
    (λ r e. of_4 e
    (keyed (codes "ename") c.in_ok-ename.ensures (ap (λ s. json.Str s) c.as_str.ensures))
    (keyed (codes "evalue") c.in_ok-evalue.ensures (ap (λ s. json.Str s) c.as_str-2.ensures))
    c.in_ok-kind.ensures
    (keyed (codes "traceback") c.in_ok-traceback.ensures c.in_ok-lines.ensures))
    c.object.ensures
