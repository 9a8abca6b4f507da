use Rattle.std.proofs.Common.{◌≡◌, drop}
use Rattle.std.specs.List.{list_any}
use Rattle.out_fold.specs.Live.{appends}
use Rattle.out_fold.specs.Plain.{contents_of}
use Rattle.out_fold.proofs.standing.one_appends.Given as goal

abbrev pub invariant-loop-message : goal.invariant-loop-message
invariant-loop-message l = list_any appends (contents_of l.messages) ≡ list_any appends (contents_of (drop l.message-index l.messages))
