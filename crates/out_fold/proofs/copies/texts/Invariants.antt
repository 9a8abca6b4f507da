use Rattle.std.proofs.Common.{◌≡◌, take}
use Rattle.out_fold.proofs.copies.texts.Given as goal

abbrev pub invariant-loop-line : goal.invariant-loop-line
invariant-loop-line l = (l.copied ≡ take l.line-index l.line-items) × (l.line-items ≡ l.lines)
