-- Frames and commands of ZMTP 3.0 (RFC 23, "Framing"): a flag octet, a size and a body.
-- Of the flag octet bit 0 is MORE, bit 1 LONG and bit 2 COMMAND; the others are reserved.
use Rattle.std.specs.Prelude.{ℕ, Bool, cond, ◌||◌, nat_lt, nat_eq, List, length, slice_index}
use Rattle.std.specs.Int.{w64, from_be_bytes}

-- the most octets that the frames of a message have together, and a command has
abbrev pub MOST : ℕ
MOST = 67108864

-- whether the standard has such a flag octet: no reserved bit, and no COMMAND with MORE
abbrev pub is_allowed : ℕ → Bool
is_allowed f = nat_lt f 5 || nat_eq f 6

-- whether COMMAND is set, in an allowed flag octet
abbrev pub is_command : ℕ → Bool
is_command f = nat_eq f 4 || nat_eq f 6

-- whether MORE is set, in an allowed flag octet
abbrev pub is_more : ℕ → Bool
is_more f = nat_eq f 1 || nat_eq f 3

-- whether LONG is set, in an allowed flag octet
abbrev pub is_long : ℕ → Bool
is_long f = nat_eq f 2 || nat_eq f 3 || nat_eq f 6

-- how many octets the size has
abbrev pub size_len : ℕ → ℕ
size_len f = cond (is_long f) 8 1

-- the size that these octets spell
abbrev pub size_of : List ℕ → ℕ
size_of octets = cond (nat_eq (length octets) 8) (from_be_bytes w64 octets) (slice_index octets 0)
