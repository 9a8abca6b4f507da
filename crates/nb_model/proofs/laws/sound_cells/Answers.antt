use Rattle.std.proofs.Common.{arith}
use Rattle.nb_model.proofs.SoundNotebooks.{cells_more}
use Rattle.nb_model.proofs.laws.sound_cells.Goals as goal

pub loop-cell-preserved : goal.loop-cell-preserved
loop-cell-preserved c = cells_more c.args.cells.now c.loop-cell.cell-index c.cell-item.result (omega arith) c.cell-item.is c.loop-cell.invariant c.sound_cell.ensures
