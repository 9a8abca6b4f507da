use Rattle.std.proofs.Common.{◌≡◌, ◌++◌, flat_map, take, string_bytes}
use Rattle.jtext.specs.Look.{text_of, items}
use Rattle.scrap_book.proofs.output.joined_text.Given as goal

abbrev pub invariant-loop-item : goal.invariant-loop-item
invariant-loop-item l = string_bytes l.text ≡ text_of l.v ++ flat_map text_of (take l.item-index (items l.v))
