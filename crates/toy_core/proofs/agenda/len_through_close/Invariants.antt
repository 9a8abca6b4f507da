use Rattle.std.proofs.Common.{◌≡◌, drop}
use Rattle.toy_core.specs.Acts.{after_close}
use Rattle.toy_core.proofs.agenda.len_through_close.Given as goal

abbrev pub invariant-loop-i : goal.invariant-loop-i
invariant-loop-i l = after_close l.acts ≡ after_close (drop l.i l.acts)
