use Rattle.std.proofs.Common.{take}
use Rattle.std.specs.List.{AllByRecursion}
use Rattle.jtext.specs.Sound.{Sound}
use Rattle.nb_model.specs.Tree.{cell_tree}
use Rattle.nb_model.proofs.laws.sound_cells.Given as goal

abbrev pub invariant-loop-cell : goal.invariant-loop-cell
invariant-loop-cell l = AllByRecursion (λ c. Sound (cell_tree c)) (take l.cell-index l.cells)
