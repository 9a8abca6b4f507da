use Rattle.std.proofs.Common.{◌≡◌, map, Some, sym, subst}
use Rattle.std.specs.Prelude.{slice_get, IfSome}
use Rattle.std.proofs.lemmas.Result.{IfOk-weaker}
use Rattle.nb_text.specs.Cells.{cell_text}
use Rattle.test_save.proofs.saves.begin.Goals as goal

pub returns : goal.returns
returns c =
    IfOk-weaker c.new.result _ _ (λ p none i. subst (λ o. IfSome o (λ t. slice_get (map cell_text c.args.n.now.cells) i ≡ Some t)) (sym (none i)) tt) c.new.ensures.kept
