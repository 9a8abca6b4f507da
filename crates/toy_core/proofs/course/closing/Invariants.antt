use Rattle.std.proofs.Common.{◌≡◌, drop}
use Rattle.toy_lang.specs.ToyOut.{close}
use Rattle.toy_core.proofs.course.closing.Given as goal

abbrev pub invariant-loop-effect : goal.invariant-loop-effect
invariant-loop-effect l = close l.count l.effects ≡ close l.count (drop l.effect-index l.effects)
