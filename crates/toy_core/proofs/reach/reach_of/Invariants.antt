use Rattle.toy_core.proofs.Reaching.{Reaches}
use Rattle.toy_core.proofs.reach.reach_of.Given as goal

abbrev pub invariant-loop-i : goal.invariant-loop-i
invariant-loop-i l = Reaches l.now l.since l.moment l.i l.acts
