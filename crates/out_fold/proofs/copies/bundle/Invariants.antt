use Rattle.std.proofs.Common.{◌≡◌, take}
use Rattle.out_fold.proofs.copies.bundle.Given as goal

abbrev pub invariant-loop-key : goal.invariant-loop-key
invariant-loop-key l = (l.copied ≡ take l.key-index l.key-items) × (l.key-items ≡ l.pairs)
