use Rattle.std.proofs.Common.{◌≡◌, map}
use Rattle.nb_model.specs.Prepared.{prepared_cell}
use Rattle.nb_model.proofs.preparation.prepare_cells.Given as goal

abbrev pub invariant-loop-c : goal.invariant-loop-c
invariant-loop-c l = l.prepared ≡ map prepared_cell l.yielded
