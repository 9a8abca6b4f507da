use Rattle.std.proofs.Common.{◌≡◌, ◌++◌, map}
use Rattle.toy_core.specs.Notes.{note_of}
use Rattle.toy_core.proofs.course.cell.Given as goal

abbrev pub invariant-loop-effect : goal.invariant-loop-effect
invariant-loop-effect l = l.course ≡ l.initial.course ++ map (note_of l.count) l.yielded
