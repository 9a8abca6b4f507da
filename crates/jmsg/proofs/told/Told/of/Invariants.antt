use Rattle.std.specs.Prelude.{vec_len}
use Rattle.jmsg.proofs.ToldLemmas.{Through}
use Rattle.jmsg.proofs.told.Told.of.Given as goal

abbrev pub invariant-pairs : goal.invariant-pairs
invariant-pairs l = Through l.fn.pairs l.left.items l.told

abbrev pub decreases-pairs : goal.decreases-pairs
decreases-pairs l = vec_len l.left
