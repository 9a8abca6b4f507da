use Rattle.std.proofs.Common.{◌<◌, length}
use Rattle.measure.proofs.steps.reads.Given as goal

abbrev pub invariant-loop : goal.invariant-loop
invariant-loop g l = 0 < length l.buf
