use Rattle.std.proofs.Common.{length}
use Rattle.zmtp_wire.proofs.WholeLemmas.{HasUnits}
use Rattle.zmtp_wire.proofs.stream.whole.Given as goal

abbrev pub invariant-loop-frames : goal.invariant-loop-frames
invariant-loop-frames l = HasUnits l.role l.bytes l.newer l.frames l.messages l.rest

abbrev pub decreases-loop-frames : goal.decreases-loop-frames
decreases-loop-frames l = length l.rest
