use Rattle.std.proofs.Common.{◌≡◌, ◌≤◌, ◌<◌, ℕ, false, slice_get}
use Rattle.ready_loop.specs.States.{awake_in, refused_in}
use Rattle.ready_loop.specs.Waits.{IsLeast}
use Rattle.ready_loop.proofs.timer.limit.Given as goal

abbrev pub invariant-loop-place : goal.invariant-loop-place
invariant-loop-place l = record {
  bound : l.least ≤ 500;
  least : IsLeast l.place l.fn.due l.last (λ p. refused_in (slice_get l.links p)) l.least;
  asleep : (p : ℕ) → p < l.place → awake_in (slice_get l.links p) ≡ false;
}
