use Rattle.std.proofs.Common.{◌≡◌, ◌==◌, ◌||◌, true, ℕ, take}
use Rattle.std.specs.List.{list_any}
use Rattle.out_fold.specs.Plans.{is_in, increases}
use Rattle.out_fold.proofs.plans.union.Given as goal

abbrev pub invariant-loop-place : goal.invariant-loop-place
invariant-loop-place l = (increases l.cells ≡ true) × ((n : ℕ) → (is_in l.cells n || is_in l.rest n) ≡ (is_in l.plan n || list_any (λ p. p.cell == n) (take l.place-index l.places)))
