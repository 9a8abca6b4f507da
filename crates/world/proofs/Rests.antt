-- What is left of a text.
use Rattle.std.proofs.Common.{◌≡◌, ℕ, ◌-◌, ◌==◌, List, [], true, length, take, drop, ◌∙◌, sym, ap, arith}
use Rattle.std.proofs.lemmas.Grind.{common_steps}
use Rattle.std.proofs.lemmas.List.{length-drop, nil_from_length}
use Rattle.std.proofs.Math.Seq.{take-length}

-- the whole of what is left
pub whole_rest : (n : ℕ) (xs : List ℕ) → take (length xs - n) (drop n xs) ≡ drop n xs
whole_rest n xs = ap (λ k. take k (drop n xs)) (sym (length-drop n xs)) ∙ take-length (drop n xs)

-- nothing is left
pub no_rest : (xs : List ℕ) → true ≡ (length xs == 0) → xs ≡ []
no_rest xs e = nil_from_length xs (grind (arith, common_steps))
