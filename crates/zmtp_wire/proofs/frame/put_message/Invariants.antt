use Rattle.std.proofs.Common.{◌≡◌, ◌++◌, ◌+◌, length, drop}
use Rattle.zmtp_wire.specs.Writing.{message_octets}
use Rattle.zmtp_wire.proofs.frame.put_message.Given as goal

abbrev pub invariant-loop-part : goal.invariant-loop-part
invariant-loop-part l = record {
  left : l.left + l.part-index ≡ length l.all;
  so_far : l.octets ++ message_octets (drop l.part-index l.all) ≡ message_octets l.all;
}
