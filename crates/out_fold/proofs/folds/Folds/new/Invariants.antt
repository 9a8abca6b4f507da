use Rattle.std.proofs.Common.{◌≡◌, ℕ, length, get_or}
use Rattle.out_fold.specs.Held.{nothing}
use Rattle.out_fold.proofs.folds.Folds.new.Given as goal

abbrev pub invariant-loop-made : goal.invariant-loop-made
invariant-loop-made l = (length l.held ≡ l.made) × ((cell : ℕ) → get_or l.held cell nothing ≡ nothing)
