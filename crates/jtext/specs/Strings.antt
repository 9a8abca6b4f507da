-- Strings (RFC 8259, section 7): which bytes spell a text, and reading on lists.
use Rattle.std.specs.Prelude.{◌≡◌, ◌⊎◌, ◌≢◌, ℕ, zero, suc, ◌+◌, ◌*◌, ◌-◌, ◌<◌, ◌≤◌, Bool, not, if◌then◌else◌, ◌&&◌, ◌||◌, ◌==◌, nat_lt, nat_le, take, drop, List, [], ◌∷◌, ◌++◌, length, encode_utf8, codes, Option, Some, None, Result, Ok, Err}
use Rattle.std.specs.List.{prefix_len}
use Rattle.std.specs.Char.{digit_value}
use Rattle.jtext.specs.declared.fault.Fault.{Fault}
use Rattle.jtext.specs.declared.fault.Fault.TheVariants.{Bad, Lone}
use Rattle.jtext.specs.Readings.{Reading, ◌>>=◌, or_fault, strip_word}

-- ---- the grammar

-- the byte stands for itself: no quote, backslash or control character
abbrev pub IsPlain : ℕ → Type 0
IsPlain c = (32 ≤ c) × (c ≢ 34) × (c ≢ 92)

-- the character of a letter after a backslash
abbrev pub short : ℕ → Option ℕ
short c =
    if c == 34 then Some 34
    else if c == 92 then Some 92
    else if c == 47 then Some 47
    else if c == 98 then Some 8
    else if c == 102 then Some 12
    else if c == 110 then Some 10
    else if c == 114 then Some 13
    else if c == 116 then Some 9
    else None

-- the number that four hexadecimal digits write
pub record IsFour (n : ℕ) (b : List ℕ) : Type 0 where
  pub p : ℕ
  pub q : ℕ
  pub r : ℕ
  pub s : ℕ
  pub is_p : digit_value p ≤ 15
  pub is_q : digit_value q ≤ 15
  pub is_r : digit_value r ≤ 15
  pub is_s : digit_value s ≤ 15
  pub number : n ≡ 16 * (16 * (16 * digit_value p + digit_value q) + digit_value r) + digit_value s
  pub text : b ≡ p ∷ q ∷ r ∷ s ∷ []

-- a high surrogate (Unicode, D800 to DBFF)
abbrev pub IsHigh : ℕ → Type 0
IsHigh u = (0xD800 ≤ u) × (u < 0xDC00)

-- a low surrogate (Unicode, DC00 to DFFF)
abbrev pub IsLow : ℕ → Type 0
IsLow u = (0xDC00 ≤ u) × (u < 0xE000)

-- the character of two surrogates
abbrev pub character_of_pair : ℕ → ℕ → ℕ
character_of_pair high low = 0x10000 + 0x400 * (high - 0xD800) + (low - 0xDC00)

-- what follows a backslash, and the character that it stands for
abbrev pub IsShort : ℕ → List ℕ → Type 0
IsShort c b = (letter : ℕ) × (short letter ≡ Some c) × (b ≡ letter ∷ [])

-- `\u` and the digits of a character that is no surrogate
abbrev pub IsUnit : ℕ → List ℕ → Type 0
IsUnit c b = (digits : List ℕ) × IsFour c digits × ((c < 0xD800) ⊎ (0xE000 ≤ c)) × (b ≡ 117 ∷ digits)

-- the escapes of a high and a low surrogate, and the character of the two
pub record IsPair (c : ℕ) (b : List ℕ) : Type 0 where
  pub high : ℕ
  pub low : ℕ
  pub first : List ℕ
  pub second : List ℕ
  pub is_first : IsFour high first
  pub is_second : IsFour low second
  pub is_high : IsHigh high
  pub is_low : IsLow low
  pub character : c ≡ character_of_pair high low
  pub text : b ≡ 117 ∷ (first ++ 92 ∷ 117 ∷ second)

-- one of the three escapes
abbrev pub IsEscape : ℕ → List ℕ → Type 0
IsEscape c b = IsShort c b ⊎ IsUnit c b ⊎ IsPair c b

-- the bytes between the quotes of a string, and its text
pub data Letters : List ℕ → List ℕ → Type 0 where
  done : Letters [] []
  plain : (c : ℕ) (text b : List ℕ) → IsPlain c → Letters text b → Letters (c ∷ text) (c ∷ b)
  escaped : (c : ℕ) (e text more b rest : List ℕ) → IsEscape c e → Letters more rest → text ≡ encode_utf8 c ++ more → b ≡ 92 ∷ (e ++ rest) → Letters text b

-- the bytes are a string of that text
abbrev pub Quoted : List ℕ → List ℕ → Type 0
Quoted text b = (inner : List ℕ) × Letters text inner × (b ≡ 34 ∷ (inner ++ 34 ∷ []))

-- ---- reading

-- the byte stands for itself
abbrev pub is_plain : ℕ → Bool
is_plain c = nat_le 32 c && (not (c == 34) && not (c == 92))

-- a byte that ends a run of plain ones
abbrev pub is_stop : ℕ → Bool
is_stop c = not (is_plain c)

-- the bytes at the front that stand for themselves, and the rest
abbrev pub split_plain : List ℕ → List ℕ × List ℕ
split_plain s = (take (prefix_len is_plain s) s, drop (prefix_len is_plain s) s)

-- the digit at the front, where its value is in that range
abbrev pub digit_at : ℕ → ℕ → List ℕ → Option (ℕ × List ℕ)
digit_at least most [] = None
digit_at least most (c ∷ cs) = if nat_le least (digit_value c) && nat_le (digit_value c) most then Some (digit_value c, cs) else None

-- a hexadecimal digit
abbrev pub any_digit_at : List ℕ → Reading ℕ
any_digit_at s = or_fault (Bad (length s)) (digit_at 0 15 s)

-- the number of four hexadecimal digits
unfoldable pub four_at : List ℕ → Reading ℕ
four_at s = do
  a ← any_digit_at s
  b ← any_digit_at a.1
  c ← any_digit_at b.1
  d ← any_digit_at c.1
  Ok (16 * (16 * (16 * a.0 + b.0) + c.0) + d.0, d.1)

-- At the end of the text the escape of a low surrogate may still come.
abbrev pub cut_or_lone : ℕ → List ℕ → Fault
cut_or_lone left [] = Bad 0
cut_or_lone left (c ∷ cs) = Lone left

-- a letter that the escape of a low surrogate has next
abbrev pub low_letter_at : List ℕ → ℕ → List ℕ → Result (List ℕ) Fault
low_letter_at letter left s = or_fault (cut_or_lone left s) (strip_word letter s)

-- a digit that the escape of a low surrogate has next
abbrev pub low_digit_at : ℕ → ℕ → ℕ → List ℕ → Reading ℕ
low_digit_at least most left s = or_fault (cut_or_lone left s) (digit_at least most s)

-- the escape of a low surrogate; the one before it has left bytes from its place on
unfoldable pub low_at : ℕ → List ℕ → Reading ℕ
low_at left s = do
  x ← low_letter_at (codes "\\") left s
  y ← low_letter_at (codes "u") left x
  a ← low_digit_at 13 13 left y
  b ← low_digit_at 12 15 left a.1
  c ← low_digit_at 0 15 left b.1
  d ← low_digit_at 0 15 left c.1
  Ok (16 * (16 * (16 * a.0 + b.0) + c.0) + d.0, d.1)

-- what a number after `\u` stands for, perhaps with a second one
abbrev pub unit_at : ℕ → ℕ → List ℕ → Reading ℕ
unit_at left u s =
    if nat_lt u 0xD800 || nat_le 0xE000 u then Ok (u, s)
    else if nat_le 0xDC00 u then Err (Lone left)
    else low_at left s >>= (λ p. Ok (character_of_pair u p.0, p.1))

-- the character of what follows `\u`
unfoldable pub unicode_at : ℕ → List ℕ → Reading ℕ
unicode_at left s = four_at s >>= (λ p. unit_at left p.0 p.1)

-- the character of a letter after a backslash, where it has one
abbrev pub short_to : List ℕ → List ℕ → Option ℕ → Reading ℕ
short_to s rest None = Err (Bad (length s))
short_to s rest (Some c) = Ok (c, rest)

-- the character after a backslash
unfoldable pub escape_at : ℕ → List ℕ → Reading ℕ
escape_at left [] = Err (Bad 0)
escape_at left (c ∷ cs) = if c == 117 then unicode_at left cs else short_to (c ∷ cs) cs (short c)

-- after the opening quote and out, in at most n characters
unfoldable pub body_at : ℕ → List ℕ → List ℕ → Reading (List ℕ)
body_at zero out s = Err (Bad (length s))
body_at (suc n) out [] = Err (Bad 0)
body_at (suc n) out (c ∷ cs) =
    if is_plain c then body_at n (out ++ c ∷ []) cs
    else if c == 34 then Ok (out, cs)
    else if c == 92 then escape_at (suc (length cs)) cs >>= (λ p. body_at n (out ++ encode_utf8 p.0) p.1)
    else Err (Bad (suc (length cs)))

-- a string: its opening quote, and its body
unfoldable pub string_at : List ℕ → Reading (List ℕ)
string_at [] = Err (Bad 0)
string_at (c ∷ cs) = if c == 34 then body_at (suc (length cs)) [] cs else Err (Bad (suc (length cs)))
