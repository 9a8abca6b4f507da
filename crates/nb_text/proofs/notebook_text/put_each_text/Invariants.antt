use Rattle.std.proofs.Common.{◌≡◌, ◌++◌, take}
use Rattle.nb_text.specs.Notebooks.{cell_lines}
use Rattle.nb_text.proofs.notebook_text.put_each_text.Given as goal

abbrev pub invariant-loop-i : goal.invariant-loop-i
invariant-loop-i l = l.out ≡ l.initial.out ++ cell_lines (take l.i l.texts)
