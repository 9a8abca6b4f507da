use Rattle.std.proofs.Common.{◌≡◌, drop}
use Rattle.std.specs.List.{list_all}
use Rattle.out_fold.specs.Plans.{is_in}
use Rattle.out_fold.proofs.plans.has_cells.Given as goal

abbrev pub invariant-loop-p : goal.invariant-loop-p
invariant-loop-p l = list_all (λ p. is_in l.plan p.cell) l.places ≡ list_all (λ p. is_in l.plan p.cell) (drop l.p-index l.places)
