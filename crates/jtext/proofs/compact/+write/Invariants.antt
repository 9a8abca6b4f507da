use Rattle.std.proofs.Common.{◌≡◌, ◌++◌, take}
use Rattle.jtext.specs.Print.{compact_items, compact_fields}
use Rattle.jtext.proofs.compact.+write.Given as goal

abbrev pub invariant-write_items-loop-i : goal.invariant-write_items-loop-i
invariant-write_items-loop-i l = l.out ≡ l.initial.out ++ compact_items (take l.i l.items)

abbrev pub invariant-write_fields-loop-i : goal.invariant-write_fields-loop-i
invariant-write_fields-loop-i l = l.out ≡ l.initial.out ++ compact_fields (take l.i l.fields)
