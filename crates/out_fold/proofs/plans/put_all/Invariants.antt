use Rattle.std.proofs.Common.{◌≡◌, ◌||◌, true, ℕ, take}
use Rattle.out_fold.specs.Plans.{is_in, increases}
use Rattle.out_fold.proofs.plans.put_all.Given as goal

abbrev pub invariant-loop-n : goal.invariant-loop-n
invariant-loop-n l = (increases l.cells ≡ true) × ((n : ℕ) → is_in l.cells n ≡ (is_in l.fn.cells n || is_in (take l.n-index l.others) n))
