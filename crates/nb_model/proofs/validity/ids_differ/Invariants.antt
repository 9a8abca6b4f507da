use Rattle.std.proofs.Common.{◌≡◌, length}
use Rattle.nb_model.specs.Valid as valid
use Rattle.nb_model.proofs.validity.ids_differ.Given as goal

abbrev pub invariant-loop-first : goal.invariant-loop-first
invariant-loop-first l = valid.ids_differ l.rest ≡ valid.ids_differ l.fn.cells

abbrev pub decreases-loop-first : goal.decreases-loop-first
decreases-loop-first l = length l.rest
