use Rattle.std.proofs.Common.{◌≡◌, take, map}
use Rattle.out_fold.specs.Tree.{stored_pair}
use Rattle.out_fold.proofs.bundle.stored_bundle.Given as goal

abbrev pub invariant-loop-key : goal.invariant-loop-key
invariant-loop-key l = (l.pairs ≡ map stored_pair (take l.key-index l.key-items)) × (l.key-items ≡ l.bundle)
