-- String literals, with the escapes of Python in lower case (The Python Language Reference, 2.4.1).
use Rattle.std.specs.Prelude.{ℕ, ◌+◌, ◌-◌, ◌*◌, List, [], ◌∷◌, ◌++◌, Option, Some, None, option_map, option_and_then, if◌then◌else◌, ◌==◌, ◌&&◌, ◌||◌, Bool, nat_le, nat_lt, encode_utf8}
use Rattle.std.specs.Str.{chars}
use Rattle.toy_lang.specs.declared.literal.Stage.{Stage}
use Rattle.toy_lang.specs.declared.literal.Stage.TheVariants.{Unopened, Open, Escape, Code, Closed}

-- ---- one character

-- a literal begins with a quote
abbrev pub opening : ℕ → Option (Option ℕ × Stage)
opening c = if c == 34 then Some (None, Open) else None

-- a quote closes the literal, a backslash begins an escape, and any other character is itself
abbrev pub open_step : ℕ → Option ℕ × Stage
open_step c =
    if c == 34 then (None, Closed)
    else if c == 92 then (None, Escape)
    else (Some c, Open)

-- after a backslash: `\`, `"`, `t`, `n`, `r`, or the letter of a code of two, four or eight digits
abbrev pub escape_step : ℕ → Option (Option ℕ × Stage)
escape_step c =
    if c == 92 then Some (Some 92, Open)
    else if c == 34 then Some (Some 34, Open)
    else if c == 116 then Some (Some 9, Open)
    else if c == 110 then Some (Some 10, Open)
    else if c == 114 then Some (Some 13, Open)
    else if c == 120 then Some (None, Code 2 0)
    else if c == 117 then Some (None, Code 4 0)
    else if c == 85 then Some (None, Code 8 0)
    else None

-- the value of a hexadecimal digit in lower case
abbrev pub digit : ℕ → Option ℕ
digit c =
    if nat_le 48 c && nat_le c 57 then Some (c - 48)
    else if nat_le 97 c && nat_le c 102 then Some (c - 87)
    else None

-- the code with one more digit, where it doesn't pass the greatest character
abbrev pub longer : ℕ → ℕ → Option ℕ
longer code d = if nat_le (16 * code + d) 0x10FFFF then Some (16 * code + d) else None

-- the code of a character (Unicode, scalar values)
abbrev pub is_scalar : ℕ → Bool
is_scalar code = nat_lt code 0xD800 || (nat_le 0xE000 code && nat_le code 0x10FFFF)

-- after a digit of a code: more digits, or the character, if the code is one of Unicode's
abbrev pub after_digit : ℕ → ℕ → Option (Option ℕ × Stage)
after_digit left code =
    if nat_lt 1 left then Some (None, Code (left - 1) code)
    else if is_scalar code then Some (Some code, Open)
    else None

-- within a code, of which so many digits are left
abbrev pub code_step : ℕ → ℕ → ℕ → Option (Option ℕ × Stage)
code_step left code c = option_and_then (after_digit left) (option_and_then (longer code) (digit c))

-- the character of the text that ends with this one, if one does, and the stage after it
abbrev pub advance : Stage → ℕ → Option (Option ℕ × Stage)
advance Unopened c = opening c
advance Open c = Some (open_step c)
advance Escape c = escape_step c
advance (Code left code) c = code_step left code c
advance Closed c = None

-- ---- all characters

-- the bytes of a character, and none where there is none
abbrev pub bytes_of : Option ℕ → List ℕ
bytes_of None = []
bytes_of (Some c) = encode_utf8 c

-- nothing more comes where the literal is closed, and else it is none
abbrev pub ending : Stage → Option (List ℕ)
ending Closed = Some []
ending Unopened = None
ending Open = None
ending Escape = None
ending (Code left code) = None

-- what the characters from this stage on add to the text, where they end the literal
abbrev pub text_from : Stage → List ℕ → Option (List ℕ)
text_from stage [] = ending stage
text_from stage (c ∷ cs) =
    option_and_then (λ s. option_map (λ text. bytes_of s.0 ++ text) (text_from s.1 cs)) (advance stage c)

-- the text of a string literal
abbrev pub literal_text : List ℕ → Option (List ℕ)
literal_text literal = text_from Unopened (chars literal)
