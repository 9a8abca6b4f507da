-- Lists of texts and counts in the content of a message (Jupyter messaging 5.3).
use Rattle.std.specs.Prelude.{ℕ, List, map, Option, Some, None, if◌then◌else◌, codes, option_and_then}
use Rattle.jtext.specs.declared.json.Json.{Json}
use Rattle.jtext.specs.Find.{field}
use Rattle.jtext.specs.Look.{items, text_of, is_strings, is_whole_text, number_at}

-- the texts of a list of strings
abbrev pub texts : Json → Option (List (List ℕ))
texts v = if is_strings v then Some (map text_of (items v)) else None

-- the list of strings under the key
abbrev pub texts_at : Json → List ℕ → Option (List (List ℕ))
texts_at t key = option_and_then texts (field t key)

-- the number, where it is whole and isn't negative
abbrev pub whole_number : Option (List ℕ) → Option (List ℕ)
whole_number None = None
whole_number (Some s) = if is_whole_text s then Some s else None

-- the execution count: none where `execution_count` is absent, no number, or a number that counts nothing
abbrev pub count : Json → Option (List ℕ)
count t = whole_number (number_at t (codes "execution_count"))
