use Rattle.std.proofs.Common.{◌≡◌, ◌++◌, string_bytes, flat_map, take}
use Rattle.nb_params.specs.Python.{assignment}
use Rattle.nb_params.proofs.source.python.Given as goal

abbrev pub invariant-loop-param : goal.invariant-loop-param
invariant-loop-param l = string_bytes l.out ≡ string_bytes l.initial.out ++ flat_map assignment (take l.param-index l.params)
