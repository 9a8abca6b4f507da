-- RFC 6901, sections 3 and 4: JSON pointers, made of reference tokens, each behind a `/`.
-- The place of a fault is the pointer to it from the value that is tested; the empty one is that value itself.
use Rattle.std.specs.Prelude.{ℕ, Bool, ◌==◌, if◌then◌else◌, List, [], ◌++◌, Option, Some, None, option_map, codes, flat_map, encode_utf8}
use Rattle.std.specs.Str.{chars}
use Rattle.std.specs.Fmt.{decimal}

-- what stands in a token for a character of a key
abbrev pub escaped_char : ℕ → List ℕ
escaped_char c = if c == 126 then codes "~0" else if c == 47 then codes "~1" else encode_utf8 c

-- the token of a key
unfoldable pub key_token : List ℕ → List ℕ
key_token key = codes "/" ++ flat_map escaped_char (chars key)

-- the token of an item, counted from 0
unfoldable pub item_token : ℕ → List ℕ
item_token i = codes "/" ++ decimal i

-- the value itself, unless the test holds of it
abbrev pub place_unless : Bool → Option (List ℕ)
place_unless holds = if holds then None else Some []

-- a place in the value under this key, seen from its object
abbrev pub under_key : List ℕ → Option (List ℕ) → Option (List ℕ)
under_key key place = option_map (λ p. key_token key ++ p) place

-- a place in the item at this index, seen from its list
abbrev pub under_item : ℕ → Option (List ℕ) → Option (List ℕ)
under_item i place = option_map (λ p. item_token i ++ p) place
