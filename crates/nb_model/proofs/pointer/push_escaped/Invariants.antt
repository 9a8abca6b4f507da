use Rattle.std.proofs.Common.{◌≡◌, ◌++◌, flat_map, string_bytes}
use Rattle.nb_model.specs.Pointer.{escaped_char}
use Rattle.nb_model.proofs.pointer.push_escaped.Given as goal

abbrev pub invariant-loop-c : goal.invariant-loop-c
invariant-loop-c l = string_bytes l.pointer ≡ string_bytes l.initial.pointer ++ flat_map escaped_char l.yielded
