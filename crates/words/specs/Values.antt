-- The values of parameters: a word, and the value that it stands for.
use Rattle.std.specs.Prelude.{◌≡◌, ℕ, true, false, List, if◌then◌else◌, codes}
use Rattle.std.specs.Str.{bytes_eq}
use Rattle.jtext.specs.Number.{IsNumber}
use Rattle.jtext.specs.declared.json.Json.{Json}
use Rattle.jtext.specs.declared.json.Json.TheVariants as json
use Rattle.jtext.specs.Names.{is_number}

-- a number, or else the text itself
abbrev pub number_or_text : List ℕ → Json
number_or_text text = if is_number text then json.Num text else json.Str text

-- Python's three words, a number, or else the text itself
abbrev pub value_of : List ℕ → Json
value_of text =
    if bytes_eq text (codes "True") then json.Bool true else
    if bytes_eq text (codes "False") then json.Bool false else
    if bytes_eq text (codes "None") then json.Null else number_or_text text

-- the value that a word stands for, by the number grammar of RFC 8259, section 6
pub record IsValue (text : List ℕ) (v : Json) : Type 0 where
  pub yes : text ≡ codes "True" → v ≡ json.Bool true
  pub no : text ≡ codes "False" → v ≡ json.Bool false
  pub none : text ≡ codes "None" → v ≡ json.Null
  pub number : IsNumber text → v ≡ json.Num text
  pub text_else : (text ≡ codes "True" → ⊥) → (text ≡ codes "False" → ⊥) → (text ≡ codes "None" → ⊥) → (IsNumber text → ⊥) → v ≡ json.Str text
