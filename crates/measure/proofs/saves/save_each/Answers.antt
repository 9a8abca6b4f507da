use Rattle.std.proofs.Common.{◌≡◌, map, Some, sym, subst}
use Rattle.std.specs.Prelude.{slice_get, IfSome}
use Rattle.nb_text.specs.Cells.{cell_text}
use Rattle.measure.proofs.saves.save_each.Goals as goal

pub loop-i-init : goal.loop-i-init
loop-i-init g c i = subst (λ o. IfSome o (λ t. slice_get (map cell_text c.args.notebook.cells) i ≡ Some t)) (sym (c.requires i)) tt
