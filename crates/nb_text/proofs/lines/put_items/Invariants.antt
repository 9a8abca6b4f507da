use Rattle.std.proofs.Common.{◌≡◌, ◌++◌, take, replicate}
use Rattle.jtext.specs.Indent.{indent_items}
use Rattle.nb_text.proofs.lines.put_items.Given as goal

abbrev pub invariant-loop-i : goal.invariant-loop-i
invariant-loop-i l = l.out ≡ l.initial.out ++ indent_items (replicate l.level 32) (take l.i l.items)
