-- Pairs in which each name stands once (RFC 8259, section 4: the names within an object should be unique).
use Rattle.std.specs.Prelude.{ℕ, List, [], ◌∷◌, if◌then◌else◌}
use Rattle.std.specs.Str.{bytes_eq}
use Rattle.jtext.specs.declared.json.Json.{Json}
use Rattle.jtext.specs.Edit.{set_pair}

-- the value of the last of these pairs that has the name, and v where none has it
abbrev pub last_value : List ℕ → Json → List (List ℕ × Json) → Json
last_value name v [] = v
last_value name v (p ∷ ps) = last_value name (if bytes_eq name p.0 then p.1 else v) ps

-- the pairs that have another name
abbrev pub with_other_names : List ℕ → List (List ℕ × Json) → List (List ℕ × Json)
with_other_names name [] = []
with_other_names name (p ∷ ps) =
    if bytes_eq name p.0 then with_other_names name ps else p ∷ with_other_names name ps

-- the pairs with each name once: in the place of its first pair, with the value of its last
abbrev pub merged : List (List ℕ × Json) → List (List ℕ × Json)
merged [] = []
merged (p ∷ ps) = (p.0, last_value p.0 p.1 ps) ∷ with_other_names p.0 (merged ps)

-- these fields with the pairs set one after the other, each in the place of its name or last
abbrev pub with_pairs : List (List ℕ × Json) → List (List ℕ × Json) → List (List ℕ × Json)
with_pairs fields [] = fields
with_pairs fields (p ∷ ps) = with_pairs (set_pair p.0 p.1 fields) ps
