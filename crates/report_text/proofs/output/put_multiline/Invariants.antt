use Rattle.std.proofs.Common.{◌≡◌, ◌++◌, flat_map, take}
use Rattle.jtext.specs.Look.{text_of, items}
use Rattle.report_text.specs.Page.{escaped}
use Rattle.report_text.proofs.output.put_multiline.Given as goal

abbrev pub invariant-loop-item : goal.invariant-loop-item
invariant-loop-item l = l.out ≡ l.fn.out ++ escaped (text_of l.v ++ flat_map text_of (take l.item-index (items l.v)))
