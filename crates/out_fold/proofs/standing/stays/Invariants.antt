use Rattle.std.proofs.Common.{◌≡◌, drop}
use Rattle.out_fold.specs.Live.{stays}
use Rattle.out_fold.specs.Plain.{contents_of}
use Rattle.out_fold.proofs.standing.stays.Given as goal

abbrev pub invariant-loop-i : goal.invariant-loop-i
invariant-loop-i l = stays (contents_of l.after) ≡ stays (contents_of (drop l.i l.after))
