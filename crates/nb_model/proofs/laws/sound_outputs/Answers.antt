use Rattle.std.proofs.Common.{arith}
use Rattle.jtext.specs.Sound.{none}
use Rattle.jtext.proofs.Sounds.{sound_more}
use Rattle.nb_model.proofs.laws.sound_outputs.Goals as goal

pub loop-output-init : goal.loop-output-init
loop-output-init c = (none, c.as_slice-output-items.ensures)

pub loop-output-preserved : goal.loop-output-preserved
loop-output-preserved c =
    (sound_more c.as_slice-output-items.result.now c.loop-output.output-index c.output-item.result (omega arith) c.output-item.is c.loop-output.invariant.0 c.sound.ensures, c.loop-output.invariant.1)
