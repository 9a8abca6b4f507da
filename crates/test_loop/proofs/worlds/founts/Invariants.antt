use Rattle.std.proofs.Common.{◌≤◌, All}
use Rattle.samples.specs.declared.fount.Fount.{Fount}
use Rattle.test_loop.proofs.worlds.founts.Given as goal

abbrev pub invariant-loop-job : goal.invariant-loop-job
invariant-loop-job l = All (λ (k : Fount). k.latest ≤ 0) l.kernels
