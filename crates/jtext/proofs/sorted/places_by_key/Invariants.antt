use Rattle.std.proofs.Common.{ℕ, List, Bor, take}
use Rattle.jtext.proofs.KeyOrder.{Listed}
use Rattle.jtext.proofs.sorted.places_by_key.Given as goal

abbrev pub invariant-loop-i : goal.invariant-loop-i
invariant-loop-i l = Listed {X = Bor (List ℕ) × ℕ} (λ x. x.0.now) (λ x. x.1) 0 (take l.i l.pairs) l.places.items
