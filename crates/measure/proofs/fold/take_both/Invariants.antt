use Rattle.std.proofs.Common.{◌≡◌}
use Rattle.out_fold.specs.Stands.{cells_of, next_of}
use Rattle.measure.proofs.fold.take_both.Given as goal

abbrev pub invariant-loop-taken : goal.invariant-loop-taken
invariant-loop-taken l = (next_of l.fold ≡ next_of l.fn.fold) × (cells_of l.fold ≡ cells_of l.fn.fold)
