-- How many octets parts have together.
use Rattle.std.proofs.Common.{◌≡◌, ℕ, ◌+◌, ◌≤◌, ◌<◌, ◌^◌, List, length, drop, ap, sym, ◌∙◌, arith}
use Rattle.std.specs.Prelude.{sum_by}
use Rattle.std.proofs.lemmas.List.{drop_all}
use Rattle.zmtp_wire.specs.Fault.{clip}

clip_same : (n : ℕ) → n < 2 ^ 64 → clip (n + 0) ≡ n
clip_same n h = omega arith

-- after the last part the sum is that of all
pub sum_done : (len i : ℕ) (items all : List (List ℕ)) → length items ≤ i → len < 2 ^ 64 → clip (len + sum_by (λ (q : List ℕ). length q) (drop i items)) ≡ clip (sum_by (λ (q : List ℕ). length q) all)
    → len ≡ clip (sum_by (λ (q : List ℕ). length q) all)
sum_done len i items all h w e =
    let none : clip (len + sum_by (λ (q : List ℕ). length q) (drop i items)) ≡ clip (len + 0) = ap (λ x. clip (len + sum_by (λ (q : List ℕ). length q) x)) (drop_all i items h) in
    sym (sym e ∙ none ∙ clip_same len w)
