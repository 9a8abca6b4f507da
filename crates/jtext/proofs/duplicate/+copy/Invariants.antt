use Rattle.std.proofs.Common.{◌≡◌, take}
use Rattle.jtext.proofs.duplicate.+copy.Given as goal

abbrev pub invariant-copy_fields-loop-key : goal.invariant-copy_fields-loop-key
invariant-copy_fields-loop-key l = l.copied ≡ take l.key-index l.fields

abbrev pub invariant-copy_items-loop-item : goal.invariant-copy_items-loop-item
invariant-copy_items-loop-item l = l.copied ≡ take l.item-index l.items
