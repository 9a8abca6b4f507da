use Rattle.std.proofs.Common.{◌≡◌, [], drop, map}
use Rattle.std.specs.Prelude.{string_bytes}
use Rattle.words.specs.Parameters as spec
use Rattle.words.proofs.parameters.parameters.Given as goal

abbrev pub invariant-loop-part : goal.invariant-loop-part
invariant-loop-part l = spec.parameters_from (map string_bytes l.words) l.fields (drop l.part-index l.parts) ≡ spec.parameters_from (map string_bytes l.fn.words) [] l.fn.parts
