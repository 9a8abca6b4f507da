use Rattle.std.proofs.Common.{◌≡◌, take, flat_map, string_bytes}
use Rattle.jtext.specs.Look.{text_of}
use Rattle.nb_model.proofs.source.joined_items.Given as goal

abbrev pub invariant-loop-item : goal.invariant-loop-item
invariant-loop-item l = string_bytes l.text ≡ flat_map text_of (take l.item-index l.items)
