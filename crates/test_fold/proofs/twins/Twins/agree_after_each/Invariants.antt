use Rattle.std.proofs.Common.{◌≡◌, length}
use Rattle.out_fold.specs.Stands.{cells_of, next_of}
use Rattle.out_fold.specs.Plain.{used_of}
use Rattle.test_fold.proofs.twins.Twins.agree_after_each.Given as goal

abbrev pub invariant-loop-taken : goal.invariant-loop-taken
invariant-loop-taken l =
    (next_of l.self.fold ≡ next_of l.fn.self.fold)
    × ((cells_of l.self.fold ≡ cells_of l.fn.self.fold)
    × (length (used_of l.self.plain) ≡ length (used_of l.fn.self.plain)))
