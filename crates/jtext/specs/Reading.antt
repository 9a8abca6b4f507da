-- What the reader answers, on lists: a value and the bytes after it, or the fault. A fault has the number of bytes from its place on.
use Rattle.std.specs.Prelude.{ℕ, zero, suc, Bool, true, false, if◌then◌else◌, ◌||◌, ◌==◌, nat_lt, List, [], ◌∷◌, ◌++◌, length, codes, Option, Some, None, option_and_then, Result, Ok, Err, take, ◌-◌}
use Rattle.std.specs.Char.{is_ascii_digit}
use Rattle.jtext.specs.declared.json.Json.{Json}
use Rattle.jtext.specs.declared.json.Json.TheVariants as json
use Rattle.jtext.specs.declared.fault.Fault.{Fault}
use Rattle.jtext.specs.declared.fault.Fault.TheVariants.{Bad, Deep, Repeated}
use Rattle.jtext.specs.Readings.{Reading, ◌>>=◌, strip_word}
use Rattle.jtext.specs.Strings.{string_at}
use Rattle.std.specs.List.{list_any}
use Rattle.std.specs.Str.{bytes_eq}

-- ---- fronts

-- white space (RFC 8259, section 2)
abbrev pub is_space : ℕ → Bool
is_space c = (c == 32) || (c == 9) || (c == 10) || (c == 13)

-- after the white space at the front
abbrev pub skip_spaces : List ℕ → List ℕ
skip_spaces [] = []
skip_spaces (c ∷ cs) = if is_space c then skip_spaces cs else c ∷ cs

-- after the digits at the front
abbrev pub skip_digits : List ℕ → List ℕ
skip_digits [] = []
skip_digits (c ∷ cs) = if is_ascii_digit c then skip_digits cs else c ∷ cs

-- after that byte, where it comes first
abbrev pub strip : ℕ → List ℕ → Option (List ℕ)
strip b [] = None
strip b (c ∷ cs) = if c == b then Some cs else None

-- the first byte and what follows it, where that byte is ASCII
abbrev pub ascii_front : List ℕ → Option (ℕ × List ℕ)
ascii_front [] = None
ascii_front (c ∷ cs) = if nat_lt c 128 then Some (c, cs) else None

-- after one digit or more
abbrev pub after_digits : List ℕ → Option (List ℕ)
after_digits [] = None
after_digits (c ∷ cs) = if is_ascii_digit c then Some (skip_digits cs) else None

-- after a minus, if there is one (section 6)
abbrev pub after_minus : List ℕ → List ℕ
after_minus [] = []
after_minus (c ∷ cs) = if c == 45 then cs else c ∷ cs

-- after a sign, if there is one
abbrev pub after_sign : List ℕ → List ℕ
after_sign [] = []
after_sign (c ∷ cs) = if (c == 45) || (c == 43) then cs else c ∷ cs

-- after a whole part: `0`, or digits that begin with another one
abbrev pub after_whole : List ℕ → Option (List ℕ)
after_whole [] = None
after_whole (c ∷ cs) = if c == 48 then Some cs else if is_ascii_digit c then Some (skip_digits cs) else None

-- after a fraction, if there is one; a point alone is none
abbrev pub after_fraction : List ℕ → Option (List ℕ)
after_fraction [] = Some []
after_fraction (c ∷ cs) = if c == 46 then after_digits cs else Some (c ∷ cs)

-- after an exponent, if there is one; an `e` alone is none
abbrev pub after_exponent : List ℕ → Option (List ℕ)
after_exponent [] = Some []
after_exponent (c ∷ cs) = if (c == 101) || (c == 69) then after_digits (after_sign cs) else Some (c ∷ cs)

-- after a number
abbrev pub after_number : List ℕ → Option (List ℕ)
after_number s = option_and_then after_exponent (option_and_then after_fraction (after_whole (after_minus s)))

-- ---- values

-- how many bytes are left where the text parts from the word
unfoldable pub word_stop : List ℕ → List ℕ → ℕ
word_stop [] s = length s
word_stop (n ∷ ns) [] = 0
word_stop (n ∷ ns) (c ∷ cs) = if c == n then word_stop ns cs else suc (length cs)

-- one of the three words and its value, where it was found (section 3)
abbrev pub word_at : List ℕ → Json → List ℕ → Option (List ℕ) → Reading Json
word_at name value s None = Err (Bad (word_stop name s))
word_at name value s (Some rest) = Ok (value, rest)

-- ---- lists and objects: items between brackets. An item is read by what was found before it.

-- after an item, at s: the end, another one, or neither
abbrev pub after_item : {A : Type 0} → (List ℕ → Reading (List A)) → List A → List ℕ → Option (List ℕ) → Option (List ℕ) → Reading (List A)
after_item more found s (Some rest) _ = Ok (found, rest)
after_item more found s None (Some rest) = more (skip_spaces rest)
after_item more found s None None = Err (Bad (length s))

-- one item or more after those found, in at most n turns
unfoldable pub items_at : {A : Type 0} → List ℕ → (List A → List ℕ → Reading A) → ℕ → List A → List ℕ → Reading (List A)
items_at close item zero found s = Err (Bad (length s))
items_at close item (suc n) found s =
    item found s >>= (λ p. let next = skip_spaces p.1 in let all = found ++ p.0 ∷ [] in
    after_item (items_at close item n all) all next (strip_word close next) (strip_word (codes ",") next))

-- the list that ends at once, or one item and more
abbrev pub begun_at : {A : Type 0} → List ℕ → (List A → List ℕ → Reading A) → List ℕ → Option (List ℕ) → Reading (List A)
begun_at close item s (Some rest) = Ok ([], rest)
begun_at close item s None = items_at close item (suc (length s)) [] s

-- what follows the opening bracket
abbrev pub list_at : {A : Type 0} → List ℕ → (List A → List ℕ → Reading A) → List ℕ → Reading (List A)
list_at close item s = begun_at close item (skip_spaces s) (strip_word close (skip_spaces s))

-- a pair has that key
abbrev pub has_key : List (List ℕ × Json) → List ℕ → Bool
has_key ps key = list_any (λ p. bytes_eq p.0 key) ps

-- the key, where its colon was found
abbrev pub colon_at : List ℕ → List ℕ → Option (List ℕ) → Reading (List ℕ)
colon_at key s None = Err (Bad (length s))
colon_at key s (Some rest) = Ok (key, skip_spaces rest)

-- the key, its colon and the white space around it
abbrev pub after_key : List ℕ → List ℕ → Reading (List ℕ)
after_key key s = colon_at key (skip_spaces s) (strip_word (codes ":") (skip_spaces s))

-- a key that isn't taken, its colon and the white space after it
abbrev pub key_at : (List ℕ → Bool) → List ℕ → Reading (List ℕ)
key_at taken s = string_at s >>= (λ p. if taken p.0 then Err (Repeated (length s)) else after_key p.0 p.1)

-- a pair, after those found
abbrev pub field_at : (List ℕ → Reading Json) → List (List ℕ × Json) → List ℕ → Reading (List ℕ × Json)
field_at value found s = key_at (has_key found) s >>= (λ k. value k.1 >>= (λ v. Ok ((k.0, v.0), v.1)))

-- an item of a list; those found before it do not matter
abbrev pub item_at : (List ℕ → Reading Json) → List Json → List ℕ → Reading Json
item_at value found s = value s

-- what reading the items of a list answers
abbrev pub Items : Type 0
Items = Reading (List Json)

-- what reading the pairs of an object answers
abbrev pub Pairs : Type 0
Pairs = Reading (List (List ℕ × Json))

-- the list of the items that were read
abbrev pub as_array : Items → Reading Json
as_array r = r >>= (λ p. Ok (json.Arr p.0, p.1))

-- the object of the pairs that were read
abbrev pub as_object : Pairs → Reading Json
as_object r = r >>= (λ p. Ok (json.Obj p.0, p.1))

-- the string of the text that was read
abbrev pub as_string : Reading (List ℕ) → Reading Json
as_string r = r >>= (λ p. Ok (json.Str p.0, p.1))

-- how many bytes are left where an exponent stops to be one
abbrev pub exponent_stop : Option (ℕ × List ℕ) → ℕ
exponent_stop None = 0
exponent_stop (Some p) = length (after_sign p.1)

-- how many bytes are left where what follows a whole part stops to be right
abbrev pub fraction_stop : List ℕ → Option (List ℕ) → ℕ
fraction_stop s None = length s - 1
fraction_stop s (Some rest) = exponent_stop (ascii_front rest)

-- how many bytes are left where what follows a minus stops to be right
abbrev pub whole_stop : List ℕ → Option (List ℕ) → ℕ
whole_stop s None = length s
whole_stop s (Some rest) = fraction_stop rest (after_fraction rest)

-- how many bytes are left where what begins as a number is none
abbrev pub number_stop : List ℕ → ℕ
number_stop s = whole_stop (after_minus s) (after_whole (after_minus s))

-- the number up to there, or the fault where it stops to be one
abbrev pub number_to : List ℕ → Option (List ℕ) → Reading Json
number_to s None = Err (Bad (number_stop s))
number_to s (Some rest) = Ok (json.Num (take (length s - length rest) s), rest)

-- a value by its first byte, with what reads the items and the pairs (section 3)
abbrev pub value_with : (List ℕ → Items) → (List ℕ → Pairs) → List ℕ → Reading Json
value_with items fields [] = Err (Bad 0)
value_with items fields (c ∷ cs) =
    if c == 110 then word_at (codes "null") json.Null (c ∷ cs) (strip_word (codes "null") (c ∷ cs))
    else if c == 116 then word_at (codes "true") (json.Bool true) (c ∷ cs) (strip_word (codes "true") (c ∷ cs))
    else if c == 102 then word_at (codes "false") (json.Bool false) (c ∷ cs) (strip_word (codes "false") (c ∷ cs))
    else if c == 34 then as_string (string_at (c ∷ cs))
    else if c == 91 then as_array (items cs)
    else if c == 123 then as_object (fields cs)
    else number_to (c ∷ cs) (after_number (c ∷ cs))

-- a value in which so many more levels may open
unfoldable pub value_at : ℕ → List ℕ → Reading Json
value_at zero = value_with (λ cs. Err (Deep (suc (length cs)))) (λ cs. Err (Deep (suc (length cs))))
value_at (suc n) = value_with (list_at (codes "]") (item_at (value_at n))) (list_at (codes "}") (field_at (value_at n)))

-- the tree, where nothing follows it
abbrev pub at_end : Json → List ℕ → Result Json Fault
at_end t [] = Ok t
at_end t (c ∷ cs) = Err (Bad (suc (length cs)))

-- the tree that is the whole text
abbrev pub document_at : ℕ → List ℕ → Result Json Fault
document_at n s = value_at n (skip_spaces s) >>= (λ p. at_end p.0 (skip_spaces p.1))
