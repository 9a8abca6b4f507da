use Rattle.std.proofs.Common.{arith}
use Rattle.zmtp_wire.proofs.SumLemmas.{sum_done}
use Rattle.zmtp_wire.proofs.frame.parts_len.Goals as goal

pub returns : goal.returns
returns c = sum_done c.loop-part.len c.loop-part.part-index c.as_slice-part-items.result.now c.args.parts.now (omega (arith, c.loop-part-test.false)) c.loop-part.invariant.low c.loop-part.invariant.sum
