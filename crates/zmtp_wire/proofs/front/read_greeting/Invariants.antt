use Rattle.std.proofs.Common.{◌-◌}
use Rattle.zmtp_wire.proofs.GreetingFronts.{Greets}
use Rattle.zmtp_wire.proofs.front.read_greeting.Given as goal

abbrev pub invariant-loop-i : goal.invariant-loop-i
invariant-loop-i l = Greets l.bytes l.i l.rest

abbrev pub decreases-loop-i : goal.decreases-loop-i
decreases-loop-i l = 64 - l.i
