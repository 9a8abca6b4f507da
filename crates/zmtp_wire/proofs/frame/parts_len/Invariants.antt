use Rattle.std.specs.Prelude.{◌≡◌, ◌+◌, ◌<◌, ◌^◌, drop, length, sum_by}
use Rattle.zmtp_wire.specs.Fault.{clip}
use Rattle.zmtp_wire.proofs.frame.parts_len.Given as goal

abbrev pub invariant-loop-part : goal.invariant-loop-part
invariant-loop-part l = record {
  low : l.len < 2 ^ 64;
  sum : clip (l.len + sum_by length (drop l.part-index l.part-items)) ≡ clip (sum_by length l.parts);
}
