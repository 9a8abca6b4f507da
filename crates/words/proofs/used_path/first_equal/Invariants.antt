use Rattle.std.proofs.Common.{◌≡◌, [], take, drop}
use Rattle.words.specs.JobsFaults as fault
use Rattle.words.proofs.used_path.first_equal.Given as goal

abbrev pub invariant-loop-i : goal.invariant-loop-i
invariant-loop-i l = fault.first_equal (take l.i l.paths) (drop l.i l.paths) ≡ fault.first_equal [] l.fn.paths
