-- Objects, put together pair by pair.
use Rattle.std.proofs.Common.{◌≡◌, ℕ, List, [], ◌∷◌, ◌++◌, ◌∙◌, ap}
use Rattle.jtext.specs.declared.json.Json.{Json}
use Rattle.jtext.specs.declared.json.Json.TheVariants as json

-- one pair more
pub put_next : {new old known : List (List ℕ × Json)} (x : List ℕ × Json) → new ≡ old ++ x ∷ [] → old ≡ known → new ≡ known ++ x ∷ []
put_next x is before = is ∙ ap (λ xs. xs ++ x ∷ []) before

-- the same, for a text that is known by another name
pub put_text_next : {new old known : List (List ℕ × Json)} {v : List ℕ} (key w : List ℕ) → new ≡ old ++ (key, json.Str v) ∷ [] → v ≡ w → old ≡ known
    → new ≡ known ++ (key, json.Str w) ∷ []
put_text_next {old = old} key w is same before = (is ∙ ap (λ t. old ++ (key, json.Str t) ∷ []) same) ∙ ap (λ xs. xs ++ (key, json.Str w) ∷ []) before
