-- Parameters as Python source, in the form of Papermill's translator: a comment, then an assignment a line.
use Rattle.std.specs.Prelude.{ℕ, ◌/◌, ◌%◌, true, false, List, [], ◌∷◌, ◌++◌, map, flat_map, codes, ◌==◌, ◌&&◌, nat_le, if◌then◌else◌}
use Rattle.std.specs.Char.{digit_char}
use Rattle.std.specs.Str.{chars}
use Rattle.jtext.specs.declared.json.Json.{Json}
use Rattle.jtext.specs.declared.json.Json.TheOpen.{Json-F}
use Rattle.jtext.specs.declared.json.Json.TheFolds.{fold-Json}

-- the lower-case hexadecimal digits of a number below 16^2
abbrev pub two_digits : ℕ → List ℕ
two_digits n = digit_char (n / 16 % 16) ∷ digit_char (n % 16) ∷ []

-- the digits of a number below 16^4
abbrev pub four_digits : ℕ → List ℕ
four_digits n = two_digits (n / 256) ++ two_digits n

-- the digits of a number below 16^8
abbrev pub eight_digits : ℕ → List ℕ
eight_digits n = four_digits (n / 65536) ++ four_digits n

-- what stands in a string literal for a character
abbrev pub literal_char : ℕ → List ℕ
literal_char c =
    if c == 92 then 92 ∷ 92 ∷ []
    else if c == 34 then 92 ∷ 34 ∷ []
    else if c == 9 then 92 ∷ 116 ∷ []
    else if c == 10 then 92 ∷ 110 ∷ []
    else if c == 13 then 92 ∷ 114 ∷ []
    else if nat_le 32 c && nat_le c 126 then c ∷ []
    else if nat_le c 255 then 92 ∷ 120 ∷ two_digits c
    else if nat_le c 65535 then 92 ∷ 117 ∷ four_digits c
    else 92 ∷ 85 ∷ eight_digits c

-- a string literal
abbrev pub literal : List ℕ → List ℕ
literal s = 34 ∷ (flat_map literal_char (chars s) ++ 34 ∷ [])

-- texts with a comma and a space between
abbrev pub listed_source : List (List ℕ) → List ℕ
listed_source [] = []
listed_source (b ∷ bs) = b ++ flat_map (λ c. 44 ∷ 32 ∷ c) bs

-- one level, with the source of each value inside in its place
abbrev pub source_step : Json-F (List ℕ) → List ℕ
source_step Json-F.Null = codes "None"
source_step (Json-F.Bool true) = codes "True"
source_step (Json-F.Bool false) = codes "False"
source_step (Json-F.Num s) = s
source_step (Json-F.Str s) = literal s
source_step (Json-F.Arr bs) = 91 ∷ (listed_source bs ++ 93 ∷ [])
source_step (Json-F.Obj ps) = 123 ∷ (listed_source (map (λ p. literal p.0 ++ 58 ∷ 32 ∷ p.1) ps) ++ 125 ∷ [])

-- a value as source
abbrev pub value_source : Json → List ℕ
value_source = fold-Json (List ℕ) source_step

-- one assignment, with its line end
abbrev pub assignment : List ℕ × Json → List ℕ
assignment p = p.0 ++ codes " = " ++ value_source p.1 ++ 10 ∷ []

-- the source of an injected cell
abbrev pub python : List (List ℕ × Json) → List ℕ
python ps = codes "# Parameters" ++ 10 ∷ flat_map assignment ps
