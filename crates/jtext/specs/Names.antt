-- Names and whole numbers, as words of a command line or of a small language have them: names of ASCII, decimal digits.
use Rattle.std.specs.Prelude.{ℕ, ◌+◌, ◌-◌, ◌*◌, Bool, false, List, [], ◌∷◌, Option, Some, None, if◌then◌else◌, ◌&&◌, ◌||◌, ◌==◌, nat_le, nat_lt, length, slice_index}
use Rattle.std.specs.List.{list_all}
use Rattle.std.specs.Char.{is_ascii_digit}
use Rattle.jtext.specs.Reading.{after_number}

-- a letter of ASCII or `_`
abbrev pub is_letter : ℕ → Bool
is_letter c = (nat_le 97 c && nat_le c 122) || (nat_le 65 c && nat_le c 90) || (c == 95)

-- a letter or a digit
abbrev pub is_name_byte : ℕ → Bool
is_name_byte c = is_letter c || is_ascii_digit c

-- a name: a letter, then letters and digits
abbrev pub is_name : List ℕ → Bool
is_name text = nat_lt 0 (length text) && is_letter (slice_index text 0) && list_all is_name_byte text

-- the number that n and the decimal digits after it make; no number where another byte stands
abbrev pub number_from : ℕ → List ℕ → Option ℕ
number_from n [] = Some n
number_from n (c ∷ cs) = if is_ascii_digit c then number_from (n * 10 + (c - 48)) cs else None

-- the number that one to nine decimal digits make; zeros may lead
abbrev pub short_number : List ℕ → Option ℕ
short_number text = if (length text == 0) || nat_lt 9 (length text) then None else number_from 0 text

-- nothing follows
abbrev pub is_nothing : Option (List ℕ) → Bool
is_nothing None = false
is_nothing (Some rest) = length rest == 0

-- the text is a number of JSON (RFC 8259, section 6): nothing follows the number at its front
abbrev pub is_number : List ℕ → Bool
is_number text = is_nothing (after_number text)
