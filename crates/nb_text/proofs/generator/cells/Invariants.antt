use Rattle.std.proofs.Common.{◌≡◌}
use Rattle.nb_text.specs.Generated.{cells_from}
use Rattle.nb_text.proofs.generator.cells.Given as goal

abbrev pub invariant-loop-i : goal.invariant-loop-i
invariant-loop-i l = l.cells ≡ cells_from 0 l.i
