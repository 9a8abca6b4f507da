use Rattle.std.proofs.Common.{◌≡◌, ◌≤◌, ◌*◌, ℕ, false}
use Rattle.ready_loop.specs.States.{IsSound, known_at}
use Rattle.measure.proofs.steps.start_all.Given as goal

abbrev pub invariant-loop-job : goal.invariant-loop-job
invariant-loop-job g l = record {
  fresh : (p : ℕ) → 4 * l.job ≤ p → known_at l.l p ≡ false;
  sound : IsSound l.initial.l → IsSound l.l;
}
