-- Values set under a key of an object (RFC 8259, section 4: the order of pairs is free, and here it is kept).
use Rattle.std.specs.Prelude.{ℕ, if◌then◌else◌, List, [], ◌∷◌, unwrap_or}
use Rattle.std.specs.Str.{bytes_eq}
use Rattle.jtext.specs.declared.json.Json.{Json}
use Rattle.jtext.specs.declared.json.Json.TheVariants as json
use Rattle.jtext.specs.Find.{field, fields}

-- the pairs with this value under the key, in its place or last
abbrev pub set_pair : List ℕ → Json → List (List ℕ × Json) → List (List ℕ × Json)
set_pair key v [] = (key, v) ∷ []
set_pair key v (p ∷ ps) = if bytes_eq p.0 key then (p.0, v) ∷ ps else p ∷ set_pair key v ps

-- the object with this value under the key; what is no object becomes one
abbrev pub set_field : List ℕ → Json → Json → Json
set_field key v t = json.Obj (set_pair key v (fields t))

-- the object with this value under a key of the object under another key
abbrev pub set_within : List ℕ → List ℕ → Json → Json → Json
set_within outer key v t =
    set_field outer (set_field key v (unwrap_or (field t outer) json.Null)) t
