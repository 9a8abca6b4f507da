use Rattle.std.proofs.Common.{◌≡◌, ◌+◌, drop}
use Rattle.out_fold.specs.Joined.{run_len}
use Rattle.out_fold.proofs.joining.run_len.Given as goal

abbrev pub invariant-loop-i : goal.invariant-loop-i
invariant-loop-i l = run_len l.name l.outputs ≡ l.i + run_len l.name (drop l.i l.outputs)
