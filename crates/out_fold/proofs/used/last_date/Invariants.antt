use Rattle.std.proofs.Common.{◌≡◌, drop, None}
use Rattle.std.specs.Option.{option_copied}
use Rattle.out_fold.specs.Cells.{last_date}
use Rattle.out_fold.specs.Plain.{is_of}
use Rattle.out_fold.proofs.used.last_date.Given as goal

abbrev pub invariant-loop-message : goal.invariant-loop-message
invariant-loop-message l = last_date (is_of l.kind) None l.messages ≡ last_date (is_of l.kind) (option_copied l.last) (drop l.message-index l.messages)
