-- Dictionaries of Python (The Python Language Reference, 6.2.7).
use Rattle.std.specs.Prelude.{ℕ, List, ◌∷◌, ◌++◌, map}
use Rattle.jtext.specs.declared.json.Json.{Json}
use Rattle.nb_params.specs.Python.{listed_source, literal, value_source}

-- the pairs of a dictionary, with a comma and a space between
abbrev pub pairs_source : List (List ℕ × Json) → List ℕ
pairs_source ps =
    listed_source (map (λ (p : List ℕ × List ℕ). literal p.0 ++ 58 ∷ 32 ∷ p.1)
    (map (λ (p : List ℕ × Json). (p.0, value_source p.1)) ps))
