use Rattle.std.proofs.Common.{◌≡◌, [], take, drop}
use Rattle.nbrun_main.specs.SameFiles as spec
use Rattle.nbrun_main.proofs.used_file.first_clash.Given as goal

abbrev pub invariant-loop-i : goal.invariant-loop-i
invariant-loop-i l = spec.first_clash (take l.i l.files) (drop l.i l.files) ≡ spec.first_clash [] l.fn.files
