use Rattle.std.proofs.Common.{ap, ◌∙◌}
use Rattle.out_fold.specs.declared.folded.Folded.{Folded}
use Rattle.out_fold.specs.Cells.{date_pairs}
use Rattle.out_fold.proofs.Answered.{if_ok}
use Rattle.out_fold.proofs.FoldLemmas.{dates-at}
use Rattle.out_fold.proofs.folds.Folds.dates.Goals as goal

pub returns : goal.returns
returns c = λ us s.
    if_ok c.date_fields.result
    (λ dates e. e
    ∙ ap (λ (h : Folded). date_pairs h.input h.busy h.idle h.reply) (c.fold_of.ensures ∙ s.cells c.args.cell c.requires)
    ∙ dates-at us c.args.cell)
    c.date_fields.ensures
