use Rattle.std.proofs.Common.{◌<◌, ◌≤◌, ◌^◌}
use Rattle.toy_host.proofs.host.serve.Given as goal

abbrev pub invariant-loop : goal.invariant-loop
invariant-loop g l = record {
  bound : l.turn.now < 2 ^ 47;
  later : g.K.KernelSide.latest l.kernel ≤ l.turn.now;
}
