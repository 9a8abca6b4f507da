-- Lists of texts, and of strings under names.
use Rattle.std.specs.Prelude.{◌≡◌, ℕ, Bool, true, List, All}
use Rattle.std.specs.List.{list_any}
use Rattle.std.specs.Str.{bytes_eq}
use Rattle.jtext.specs.declared.json.Json.{Json}
use Rattle.jtext.specs.Look.{is_string}

-- the text is one of these
abbrev pub is_among : List ℕ → List (List ℕ) → Bool
is_among text texts = list_any (λ other. bytes_eq other text) texts

-- each value is a string
abbrev pub AllStrings : List (List ℕ × Json) → Type 0
AllStrings pairs = All (λ pair. is_string pair.1 ≡ true) pairs
