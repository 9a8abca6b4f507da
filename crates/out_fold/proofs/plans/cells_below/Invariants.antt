use Rattle.std.proofs.Common.{◌≡◌, ◌+◌, drop}
use Rattle.out_fold.specs.Plans.{lead}
use Rattle.out_fold.proofs.plans.cells_below.Given as goal

abbrev pub invariant-loop-i : goal.invariant-loop-i
invariant-loop-i l = lead l.plan l.cell ≡ l.i + lead (drop l.i l.plan) l.cell
