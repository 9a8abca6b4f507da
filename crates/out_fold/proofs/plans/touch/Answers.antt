use Rattle.std.proofs.Common.{◌≡◌, ◌∙◌, true, ap, sym}
use Rattle.std.specs.List.{list_all}
use Rattle.std.proofs.lemmas.Result.{on_ok_weaker}
use Rattle.out_fold.specs.Plans.{is_in}
use Rattle.out_fold.proofs.PlanLemmas.{covers-one}
use Rattle.out_fold.proofs.plans.touch.Goals as goal

pub returns-then-has_cells-clause-covers : goal.returns-then-has_cells-clause-covers
returns-then-has_cells-clause-covers c =
    let all : list_all (λ p. is_in c.args.plan.now p.cell) c.args.places.now ≡ true =
    sym (c.has_cells.ensures ∙ ap (λ ys. list_all (λ p. is_in ys p.cell) c.args.places.now) c.as_slice.ensures) ∙ c.if-has_cells.true in
    on_ok_weaker c.touch_one.result (λ h. covers-one c.args.plan.now c.touch_one.new.plan c.args.cell c.args.places.now c.touch_one.ensures.sorted all h) c.touch_one.ensures.members
