use Rattle.std.proofs.Common.{◌≡◌, [], take, drop, map}
use Rattle.std.specs.Prelude.{string_bytes}
use Rattle.words.specs.Refusals as spec
use Rattle.words.proofs.fault.first_fault.Given as goal

abbrev pub invariant-loop-i : goal.invariant-loop-i
invariant-loop-i l = spec.first_fault (map string_bytes l.words) (take l.i l.parts) (drop l.i l.parts) ≡ spec.first_fault (map string_bytes l.fn.words) [] l.fn.parts
