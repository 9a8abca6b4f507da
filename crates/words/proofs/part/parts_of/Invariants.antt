use Rattle.std.proofs.Common.{◌≡◌, ◌++◌, drop, map}
use Rattle.std.specs.Prelude.{string_bytes}
use Rattle.words.specs.Parts as spec
use Rattle.words.proofs.part.parts_of.Given as goal

abbrev pub invariant-loop-at : goal.invariant-loop-at
invariant-loop-at l = l.parts ++ spec.parts_from l.ended l.values l.at (map string_bytes (drop l.at l.words)) ≡ spec.parts_of (map string_bytes l.fn.words)
