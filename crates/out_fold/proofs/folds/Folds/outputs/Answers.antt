use Rattle.std.proofs.Common.{ap, ◌∙◌, map}
use Rattle.out_fold.specs.declared.folded.Folded.{Folded}
use Rattle.out_fold.specs.Shown.{resolve}
use Rattle.out_fold.specs.Tree.{output_tree}
use Rattle.out_fold.specs.Cells.{joined_where}
use Rattle.out_fold.specs.Held.{data_of}
use Rattle.out_fold.proofs.Answered.{if_ok}
use Rattle.out_fold.proofs.FoldLemmas.{outputs-held-at}
use Rattle.out_fold.proofs.folds.Folds.outputs.Goals as goal

pub returns : goal.returns
returns c = λ us s.
    if_ok c.output_items.result
    (λ items e. e
    ∙ ap (λ cs. map (λ x. output_tree (resolve (data_of c.args.self.now.latest) x)) (joined_where c.args.self.now.merge cs)) (c.as_slice.ensures ∙ ap (λ (h : Folded). h.outputs) c.fold_of-held.ensures)
    ∙ outputs-held-at c.args.self.now us c.args.cell s c.requires)
    c.output_items.ensures
