-- Objects from their pairs.
use Rattle.std.proofs.Common.{◌≡◌, ℕ, List, [], ◌∷◌}
use Rattle.jtext.specs.declared.json.Json.{Json}
use Rattle.jtext.specs.declared.json.Json.TheVariants as json

pub of_3 : {r : Json} {a b c a' b' c' : List ℕ × Json} → r ≡ json.Obj (a ∷ b ∷ c ∷ []) → a ≡ a' → b ≡ b' → c ≡ c' → r ≡ json.Obj (a' ∷ b' ∷ c' ∷ [])
of_3 r a b c = cc

pub of_4 : {r : Json} {a b c d a' b' c' d' : List ℕ × Json} → r ≡ json.Obj (a ∷ b ∷ c ∷ d ∷ []) → a ≡ a' → b ≡ b' → c ≡ c' → d ≡ d'
    → r ≡ json.Obj (a' ∷ b' ∷ c' ∷ d' ∷ [])
of_4 r a b c d = cc
