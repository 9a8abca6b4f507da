use Rattle.std.proofs.Common.{◌++◌, ◌∷◌, [], ap₂, ◌∙◌}
use Rattle.nb_text.proofs.GeneratedCells.{one_more}
use Rattle.nb_text.proofs.generator.cells.Goals as goal

pub loop-i-preserved : goal.loop-i-preserved
loop-i-preserved c = c.in_ok-push.ensures.ok ∙ ap₂ (λ l x. l ++ x ∷ []) c.loop-i.invariant c.in_ok-cell.ensures ∙ one_more c.loop-i.i
