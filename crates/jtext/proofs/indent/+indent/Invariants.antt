use Rattle.std.proofs.Common.{◌≡◌, ◌++◌, take}
use Rattle.jtext.specs.Sorting.{by_key}
use Rattle.jtext.specs.Indent.{indent_items, indent_fields}
use Rattle.jtext.proofs.indent.+indent.Given as goal

abbrev pub invariant-indent_items-loop-i : goal.invariant-indent_items-loop-i
invariant-indent_items-loop-i l =
    record {
      text : l.out ≡ l.initial.out ++ indent_items l.initial.margin (take l.i l.items);
      margin : l.margin ≡ l.initial.margin;
    }

abbrev pub invariant-indent_fields-loop-i : goal.invariant-indent_fields-loop-i
invariant-indent_fields-loop-i l =
    record {
      text : l.out ≡ l.initial.out ++ indent_fields l.initial.margin (take l.i (by_key l.fields));
      margin : l.margin ≡ l.initial.margin;
    }
