use Rattle.std.proofs.Common.{◌≡◌, ◌++◌, drop, map}
use Rattle.std.specs.Prelude.{string_bytes}
use Rattle.words.specs.Asked as spec
use Rattle.words.proofs.compose.error_names.Given as goal

abbrev pub invariant-loop-part : goal.invariant-loop-part
invariant-loop-part l = l.names ++ spec.error_names (map string_bytes l.words) (drop l.part-index l.parts) ≡ spec.error_names (map string_bytes l.fn.words) l.fn.parts
