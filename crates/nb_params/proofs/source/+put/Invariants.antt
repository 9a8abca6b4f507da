use Rattle.std.proofs.Common.{◌≡◌, ◌++◌, take, map, string_bytes}
use Rattle.nb_params.specs.Python.{listed_source, value_source}
use Rattle.nb_params.specs.Pairs.{pairs_source}
use Rattle.nb_params.proofs.source.+put.Given as goal

abbrev pub invariant-put_items-loop-i : goal.invariant-put_items-loop-i
invariant-put_items-loop-i l = string_bytes l.out ≡ string_bytes l.initial.out ++ listed_source (map value_source (take l.i l.items))

abbrev pub invariant-put_pairs-loop-i : goal.invariant-put_pairs-loop-i
invariant-put_pairs-loop-i l = string_bytes l.out ≡ string_bytes l.initial.out ++ pairs_source (take l.i l.fields)
