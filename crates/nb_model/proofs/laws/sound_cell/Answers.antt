use Rattle.nb_model.proofs.SoundNotebooks.{cell_sound}
use Rattle.nb_model.proofs.laws.sound_cell.Goals as goal

pub returns : goal.returns
returns c = cell_sound c.args.cell.now c.sound_id.ensures c.sound.ensures c.sound-2.ensures c.sound_attachments.ensures c.sound_outputs.ensures c.sound_count.ensures
