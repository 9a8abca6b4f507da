-- The values that recur in notebooks (nbformat 4.5 schema, `misc`).
use Rattle.std.specs.Prelude.{ℕ, Bool, List, ◌||◌, ◌&&◌, ◌==◌, nat_le, length}
use Rattle.std.specs.List.{list_all}
use Rattle.std.specs.Char.{is_ascii_digit}
use Rattle.jtext.specs.declared.json.Json.{Json}
use Rattle.jtext.specs.Look.{is_null, is_whole_text, number, there_and}

-- `execution_count`: `null`, or a whole number that isn't negative
abbrev pub is_count : Json → Bool
is_count v = is_null v || there_and is_whole_text (number v)

-- a byte that an id may have
abbrev pub is_id_byte : ℕ → Bool
is_id_byte c =
    (nat_le 97 c && nat_le c 122) || (nat_le 65 c && nat_le c 90) || is_ascii_digit c || (c == 45) || (c == 95)

-- `cell_id`: 1 to 64 of the characters `a-z A-Z 0-9 - _`
abbrev pub is_id_text : List ℕ → Bool
is_id_text s = nat_le 1 (length s) && nat_le (length s) 64 && list_all is_id_byte s
