use Rattle.std.proofs.Common.{◌≡◌, ℕ, List, ◌-◌, ◌+◌}
use Rattle.std.specs.List.{list_any}
use Rattle.std.specs.Str.{bytes_eq}
use Rattle.std.specs.BTreeSet.{contains_text}
use Rattle.nb_params.specs.Injected.{free_from}
use Rattle.nb_params.proofs.fresh.least_free.Given as goal

abbrev pub invariant-loop-i : goal.invariant-loop-i
invariant-loop-i l = (ids : List (List ℕ)) → ((q : List ℕ) → contains_text l.taken q ≡ list_any (bytes_eq q) ids) → free_from l.steps 1 ids ≡ free_from (l.steps - l.i) (l.i + 1) ids
