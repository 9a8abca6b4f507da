use Rattle.std.proofs.Common.{◌≡◌, take}
use Rattle.jtext.specs.Sound.{AllSound}
use Rattle.nb_model.proofs.laws.sound_outputs.Given as goal

abbrev pub invariant-loop-output : goal.invariant-loop-output
invariant-loop-output l = AllSound (take l.output-index l.output-items) × (l.output-items ≡ l.outputs)
