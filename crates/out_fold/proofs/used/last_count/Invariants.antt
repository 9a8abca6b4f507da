use Rattle.std.proofs.Common.{◌≡◌, drop, None}
use Rattle.std.specs.Option.{option_copied}
use Rattle.out_fold.specs.Cells.{last_count}
use Rattle.out_fold.specs.Plain.{contents_of}
use Rattle.out_fold.proofs.used.last_count.Given as goal

abbrev pub invariant-loop-message : goal.invariant-loop-message
invariant-loop-message l = last_count None (contents_of l.messages) ≡ last_count (option_copied l.last) (contents_of (drop l.message-index l.messages))
