use Rattle.std.proofs.Common.{ap, ◌∙◌}
use Rattle.out_fold.specs.declared.folded.Folded.{Folded}
use Rattle.out_fold.proofs.FoldLemmas.{count-at}
use Rattle.out_fold.proofs.folds.Folds.count.Goals as goal

pub returns : goal.returns
returns c = λ us s.
    c.as_ref.ensures.value ∙ ap (λ (h : Folded). h.count) (c.fold_of.ensures ∙ s.cells c.args.cell c.requires) ∙ count-at us c.args.cell
