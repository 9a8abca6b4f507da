use Rattle.std.proofs.Common.{◌≡◌, ◌++◌, take}
use Rattle.jmsg.proofs.frames.append_copies.Given as goal

abbrev pub invariant-loop-part : goal.invariant-loop-part
invariant-loop-part l = l.out ≡ l.initial.out ++ take l.part-index l.parts
