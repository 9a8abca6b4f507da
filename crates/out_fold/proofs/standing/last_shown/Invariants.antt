use Rattle.std.proofs.Common.{◌≡◌, drop}
use Rattle.std.specs.Option.{option_copied}
use Rattle.out_fold.specs.Shown.{latest}
use Rattle.out_fold.specs.Plain.{contents_of, data_of}
use Rattle.out_fold.proofs.standing.last_shown.Given as goal

abbrev pub invariant-loop-message : goal.invariant-loop-message
invariant-loop-message l = latest l.id (data_of (option_copied l.before)) (contents_of l.messages) ≡ latest l.id (data_of (option_copied l.last)) (contents_of (drop l.message-index l.messages))
