use Rattle.std.proofs.Common.{◌≡◌, drop}
use Rattle.out_fold.specs.Cells.{count_of}
use Rattle.out_fold.proofs.plain_fold.PlainFold.count.Given as goal

abbrev pub invariant-loop-request : goal.invariant-loop-request
invariant-loop-request l = count_of l.request-items l.cell ≡ count_of (drop l.request-index l.request-items) l.cell
