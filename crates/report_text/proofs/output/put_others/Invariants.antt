use Rattle.std.proofs.Common.{◌≡◌, [], ◌∷◌, ◌++◌, flat_map, take}
use Rattle.jtext.specs.Look.{text_of}
use Rattle.report_text.specs.Page.{escaped}
use Rattle.report_text.proofs.output.put_others.Given as goal

abbrev pub invariant-loop-item : goal.invariant-loop-item
invariant-loop-item l = l.out ≡ l.initial.out ++ escaped (flat_map (λ t. (10 ∷ []) ++ text_of t) (take l.item-index l.items))
