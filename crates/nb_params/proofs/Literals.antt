use Rattle.std.proofs.Common.{ℕ, List, ◌≡◌, ◌++◌, ◌∷◌, [], map, refl, ap, ◌∙◌, append_assoc, flat_map}
use Rattle.nb_params.specs.Python.{literal_char}

-- each item as it is
pub map_same : {A : Type 0} (xs : List A) → map (λ x. x) xs ≡ xs
map_same [] = refl
map_same (x ∷ xs) = ap (λ ys. x ∷ ys) (map_same xs)

-- a literal, from its quotes and what stands between
pub between_quotes : (old a b z ys cs : List ℕ) → a ≡ old ++ 34 ∷ [] → b ≡ a ++ flat_map literal_char ys → ys ≡ cs → z ≡ b ++ 34 ∷ []
    → z ≡ old ++ 34 ∷ (flat_map literal_char cs ++ 34 ∷ [])
between_quotes old a b z ys cs opens body same closes = rw (closes, body, opens, same) (append_assoc (old ++ 34 ∷ []) (flat_map literal_char cs) (34 ∷ []) ∙ append_assoc old (34 ∷ []) (flat_map literal_char cs ++ 34 ∷ []))
