use Rattle.std.proofs.Common.{◌≡◌, map}
use Rattle.nb_params.specs.Injected.{hidden_cell}
use Rattle.nb_params.proofs.hiding.hide_all.Given as goal

abbrev pub invariant-loop-cell : goal.invariant-loop-cell
invariant-loop-cell l = l.out ≡ map hidden_cell l.yielded
