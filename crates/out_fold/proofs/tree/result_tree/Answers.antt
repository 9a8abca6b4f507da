use Rattle.std.proofs.Common.{codes}
use Rattle.out_fold.proofs.Answered.{if_ok}
use Rattle.out_fold.proofs.Objects.{of_4}
use Rattle.out_fold.proofs.tree.result_tree.Goals as goal
use Rattle.jcontent.proofs.Pairs.{keyed}

pub returns : goal.returns
returns c =
    if_ok c.object.result
    (λ r e. of_4 e
    (keyed (codes "data") c.in_ok-shown.ensures c.in_ok-bundle.ensures)
    (keyed (codes "execution_count") c.in_ok-number.ensures c.in_ok-count.ensures)
    (keyed (codes "metadata") c.in_ok-about.ensures c.in_ok-metadata.ensures)
    c.in_ok-kind.ensures)
    c.object.ensures
