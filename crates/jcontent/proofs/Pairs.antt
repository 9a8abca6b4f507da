-- Pairs of objects.
use Rattle.std.proofs.Common.{◌≡◌, ℕ, List, ◌∙◌, ap}
use Rattle.jtext.specs.declared.json.Json.{Json}

-- a pair by its value
pub keyed : (key : List ℕ) {p : List ℕ × Json} {v w : Json} → p ≡ (key, v) → v ≡ w → p ≡ (key, w)
keyed key a b = a ∙ ap (λ x. (key, x)) b
