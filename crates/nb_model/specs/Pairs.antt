-- Pairs of an object with one taken out (RFC 8259, section 4: an object is a set of pairs).
use Rattle.std.specs.Prelude.{ℕ, if◌then◌else◌, List, [], ◌∷◌}
use Rattle.std.specs.Str.{bytes_eq}
use Rattle.jtext.specs.declared.json.Json.{Json}

-- the pairs but for the first one with that key
abbrev pub pairs_without : List ℕ → List (List ℕ × Json) → List (List ℕ × Json)
pairs_without key [] = []
pairs_without key (p ∷ ps) = if bytes_eq p.0 key then ps else p ∷ pairs_without key ps
