use Rattle.std.proofs.Common.{◌≡◌, drop}
use Rattle.out_fold.specs.Cells.{dates_of}
use Rattle.out_fold.proofs.plain_fold.PlainFold.dates.Given as goal

abbrev pub invariant-loop-request : goal.invariant-loop-request
invariant-loop-request l = dates_of l.request-items l.cell ≡ dates_of (drop l.request-index l.request-items) l.cell
