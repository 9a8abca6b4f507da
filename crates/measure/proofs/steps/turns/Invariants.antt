use Rattle.std.proofs.Common.{◌<◌, length}
use Rattle.ready_loop.specs.States.{IsSound}
use Rattle.measure.proofs.steps.turns.Given as goal

abbrev pub invariant-loop : goal.invariant-loop
invariant-loop g l = record {
  room : 0 < length l.buf;
  sound : IsSound l.l;
}
