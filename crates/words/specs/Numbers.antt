-- The numbers that options take.
use Rattle.std.specs.Prelude.{ℕ, List, Option, Some, None, if◌then◌else◌, ◌&&◌, nat_le, nat_lt, length, option_and_then}
use Rattle.jtext.specs.Names.{short_number}

-- the number, where it is in this range
abbrev pub within : ℕ → ℕ → ℕ → Option ℕ
within least most n = if nat_le least n && nat_le n most then Some n else None

-- the number in this range that one to so many decimal digits make, nine at most; zeros may lead
abbrev pub number_within : ℕ → ℕ → ℕ → List ℕ → Option ℕ
number_within digits least most text =
    if nat_lt digits (length text) then None else option_and_then (within least most) (short_number text)

-- the seconds of a time: 1 to 9 digits, and at least 1
abbrev pub seconds : List ℕ → Option ℕ
seconds text = number_within 9 1 999999999 text

-- the number of generated cells: 1 to 3 digits, and at most 200
abbrev pub count : List ℕ → Option ℕ
count text = number_within 3 0 200 text
