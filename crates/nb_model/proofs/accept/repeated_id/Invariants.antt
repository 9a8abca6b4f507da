use Rattle.std.proofs.Common.{◌≡◌, ℕ, List, [], length}
use Rattle.std.specs.List.{list_any}
use Rattle.std.specs.Str.{bytes_eq}
use Rattle.std.specs.BTreeSet.{contains_text}
use Rattle.nb_model.specs.Faults.{repeated_id}
use Rattle.nb_model.proofs.accept.repeated_id.Given as goal

-- the ids so far are those in the set, and what is left tells the first repeated one
abbrev pub invariant-loop-first : goal.invariant-loop-first
invariant-loop-first l =
    (earlier : List (List ℕ)) × (((q : List ℕ) → contains_text l.seen q ≡ list_any (λ e. bytes_eq e q) earlier) × (repeated_id earlier l.rest ≡ repeated_id [] l.fn.cells))

abbrev pub decreases-loop-first : goal.decreases-loop-first
decreases-loop-first l = length l.rest
