use Rattle.std.proofs.Common.{◌≡◌}
use Rattle.out_fold.specs.Stands.{cells_of, next_of}
use Rattle.test_fold.proofs.outputs.give.Given as goal

abbrev pub invariant-loop-line : goal.invariant-loop-line
invariant-loop-line l = (next_of l.fold ≡ next_of l.fn.fold) × (cells_of l.fold ≡ cells_of l.fn.fold)
