use Rattle.std.proofs.Common.{◌≡◌, drop}
use Rattle.words.specs.Paths as spec
use Rattle.words.proofs.path.path.Given as goal

abbrev pub invariant-loop-part : goal.invariant-loop-part
invariant-loop-part l = spec.path l.left (drop l.part-index l.parts) ≡ spec.path l.n l.fn.parts
