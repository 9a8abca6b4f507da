use Rattle.std.proofs.Common.{◌≡◌}
use Rattle.out_fold.specs.Stands.{cells_of, next_of}
use Rattle.measure.proofs.fold.full_fold.Given as goal

abbrev pub invariant-loop-cell : goal.invariant-loop-cell
invariant-loop-cell l = (next_of l.fold ≡ l.cell) × (cells_of l.fold ≡ l.cells)
