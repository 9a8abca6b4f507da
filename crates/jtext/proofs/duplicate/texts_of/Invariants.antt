use Rattle.std.proofs.Common.{◌≡◌, take, map}
use Rattle.jtext.specs.Look.{text_of}
use Rattle.jtext.proofs.duplicate.texts_of.Given as goal

abbrev pub invariant-loop-item : goal.invariant-loop-item
invariant-loop-item l = l.texts ≡ map text_of (take l.item-index l.items)
