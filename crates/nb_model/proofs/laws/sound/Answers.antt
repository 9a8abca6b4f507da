use Rattle.std.proofs.Common.{subst}
use Rattle.std.specs.List.{AllByRecursion}
use Rattle.jtext.specs.Sound.{Sound}
use Rattle.nb_model.specs.Tree.{cell_tree}
use Rattle.nb_model.proofs.SoundNotebooks.{notebook_sound}
use Rattle.nb_model.proofs.laws.sound.Goals as goal

pub returns : goal.returns
returns c = notebook_sound c.args.n.now c.sound.ensures (subst (AllByRecursion (λ x. Sound (cell_tree x))) c.as_slice.ensures c.sound_cells.ensures)
