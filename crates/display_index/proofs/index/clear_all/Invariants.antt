use Rattle.std.proofs.Common.{◌≡◌, ℕ, List, cond, take}
use Rattle.std.specs.List.{list_any}
use Rattle.std.specs.Str.{bytes_eq}
use Rattle.display_index.specs.Listed.{places_at, outside}
use Rattle.display_index.proofs.index.clear_all.Given as goal

abbrev pub invariant-loop-id : goal.invariant-loop-id
invariant-loop-id l = (other : List ℕ) → places_at l.by_id other
    ≡ cond (list_any (λ id. bytes_eq id other) (take l.id-index l.id-items)) (outside l.cell (places_at l.fn.by_id other)) (places_at l.fn.by_id other)
