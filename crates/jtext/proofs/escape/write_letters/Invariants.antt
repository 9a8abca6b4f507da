use Rattle.std.proofs.Common.{◌≡◌, ◌++◌, length}
use Rattle.std.specs.List.{flat_map}
use Rattle.jtext.specs.Print.{escape_byte}
use Rattle.jtext.proofs.escape.write_letters.Given as goal

abbrev pub invariant-runs : goal.invariant-runs
invariant-runs l = l.out ++ flat_map escape_byte l.rest ≡ l.initial.out ++ flat_map escape_byte l.initial.rest

abbrev pub decreases-runs : goal.decreases-runs
decreases-runs l = length l.rest
