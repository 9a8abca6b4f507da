use Rattle.std.proofs.Common.{◌≡◌, ◌++◌, drop, None}
use Rattle.std.specs.Option.{option_copied}
use Rattle.out_fold.specs.Shown.{latest}
use Rattle.out_fold.specs.Cells.{all_contents}
use Rattle.out_fold.specs.Plain.{contents_of, data_of}
use Rattle.out_fold.proofs.standing.last_of_all.Given as goal

abbrev pub invariant-loop-request : goal.invariant-loop-request
invariant-loop-request l = latest l.id None (contents_of l.after ++ all_contents l.later) ≡ latest l.id (data_of (option_copied l.last)) (all_contents (drop l.request-index l.later))
