use Rattle.std.proofs.Common.{◌≡◌, ◌≤◌}
use Rattle.out_fold.specs.Stands.{cells_of, next_of}
use Rattle.test_fold.proofs.twins.Twins.agree_on_all.Given as goal

abbrev pub invariant-loop-cell : goal.invariant-loop-cell
invariant-loop-cell l = (next_of l.self.fold ≤ l.cell) × (cells_of l.self.fold ≡ 4)
