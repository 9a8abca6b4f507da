use Rattle.std.proofs.Common.{◌≡◌, take, map}
use Rattle.jtext.specs.declared.json.Json.TheVariants as json
use Rattle.out_fold.proofs.tree.strings.Given as goal

abbrev pub invariant-loop-line : goal.invariant-loop-line
invariant-loop-line l = (l.items ≡ map (λ x. json.Str x) (take l.line-index l.line-items)) × (l.line-items ≡ l.lines)
