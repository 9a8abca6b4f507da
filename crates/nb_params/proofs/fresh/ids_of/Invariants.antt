use Rattle.std.proofs.Common.{◌≡◌, ℕ, List, take}
use Rattle.std.specs.List.{list_any}
use Rattle.std.specs.Str.{bytes_eq}
use Rattle.std.specs.BTreeSet.{contains_text}
use Rattle.nb_params.specs.Injected.{ids}
use Rattle.nb_params.proofs.fresh.ids_of.Given as goal

abbrev pub invariant-loop-cell : goal.invariant-loop-cell
invariant-loop-cell l = (q : List ℕ) → contains_text l.ids q ≡ list_any (bytes_eq q) (ids (take l.cell-index l.cells))
