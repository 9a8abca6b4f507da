use Rattle.std.proofs.Common.{◌≡◌, ◌++◌, flat_map, take, string_bytes}
use Rattle.out_fold.specs.Joined.{stream_text}
use Rattle.out_fold.proofs.joining.run_text.Given as goal

abbrev pub invariant-loop-c : goal.invariant-loop-c
invariant-loop-c l = string_bytes l.text ≡ l.first ++ flat_map stream_text (take l.c-index l.run)
