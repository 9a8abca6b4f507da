use Rattle.std.proofs.Common.{◌≡◌, map}
use Rattle.nb_model.specs.Reading.{cell_of}
use Rattle.nb_model.proofs.parts.cells_of.Given as goal

abbrev pub invariant-loop-item : goal.invariant-loop-item
invariant-loop-item l = l.cells ≡ map cell_of l.yielded
