-- Looking into a JSON value (RFC 8259, section 3: an object, an array, a number, a string, or one of three names): its kind, and what stands in it.
use Rattle.std.specs.Prelude.{ℕ, Bool, true, false, List, [], Option, Some, None, ◌&&◌, ◌||◌, ◌==◌, not, nat_le, length, slice_index, is_some, option_and_then, unwrap_or}
use Rattle.std.specs.List.{list_all}
use Rattle.std.specs.Char.{is_ascii_digit}
use Rattle.jtext.specs.declared.json.Json.{Json, out-Json}
use Rattle.jtext.specs.declared.json.Json.TheOpen.{Json-F}
use Rattle.jtext.specs.Find.{field}

-- ---- kinds

-- an object, seen at one level
abbrev pub is_object_layer : Json-F Json → Bool
is_object_layer Json-F.Null = false
is_object_layer (Json-F.Bool b) = false
is_object_layer (Json-F.Num s) = false
is_object_layer (Json-F.Str s) = false
is_object_layer (Json-F.Arr xs) = false
is_object_layer (Json-F.Obj ps) = true

-- the value is an object
abbrev pub is_object : Json → Bool
is_object t = is_object_layer (out-Json t)

-- a list, seen at one level
abbrev pub is_list_layer : Json-F Json → Bool
is_list_layer Json-F.Null = false
is_list_layer (Json-F.Bool b) = false
is_list_layer (Json-F.Num s) = false
is_list_layer (Json-F.Str s) = false
is_list_layer (Json-F.Arr xs) = true
is_list_layer (Json-F.Obj ps) = false

-- the value is a list, which the standard calls an array
abbrev pub is_list : Json → Bool
is_list t = is_list_layer (out-Json t)

-- `null`, seen at one level
abbrev pub is_null_layer : Json-F Json → Bool
is_null_layer Json-F.Null = true
is_null_layer (Json-F.Bool b) = false
is_null_layer (Json-F.Num s) = false
is_null_layer (Json-F.Str s) = false
is_null_layer (Json-F.Arr xs) = false
is_null_layer (Json-F.Obj ps) = false

-- the value is `null`
abbrev pub is_null : Json → Bool
is_null t = is_null_layer (out-Json t)

-- `true`, seen at one level
abbrev pub is_true_layer : Json-F Json → Bool
is_true_layer Json-F.Null = false
is_true_layer (Json-F.Bool b) = b
is_true_layer (Json-F.Num s) = false
is_true_layer (Json-F.Str s) = false
is_true_layer (Json-F.Arr xs) = false
is_true_layer (Json-F.Obj ps) = false

-- the value is `true`
abbrev pub is_true : Json → Bool
is_true t = is_true_layer (out-Json t)

-- ---- what stands in a value

-- the items of a list, seen at one level
abbrev pub items_layer : Json-F Json → List Json
items_layer Json-F.Null = []
items_layer (Json-F.Bool b) = []
items_layer (Json-F.Num s) = []
items_layer (Json-F.Str s) = []
items_layer (Json-F.Arr xs) = xs
items_layer (Json-F.Obj ps) = []

-- the items of a list, and none of another value
abbrev pub items : Json → List Json
items t = items_layer (out-Json t)

-- the items of a list, and none where there is no value
abbrev pub items_of : Option Json → List Json
items_of None = []
items_of (Some v) = items v

-- the text of a string, seen at one level
abbrev pub string_layer : Json-F Json → Option (List ℕ)
string_layer Json-F.Null = None
string_layer (Json-F.Bool b) = None
string_layer (Json-F.Num s) = None
string_layer (Json-F.Str s) = Some s
string_layer (Json-F.Arr xs) = None
string_layer (Json-F.Obj ps) = None

-- the text of a string
abbrev pub string : Json → Option (List ℕ)
string t = string_layer (out-Json t)

-- the text of a string, and the empty text of another value
abbrev pub text_of : Json → List ℕ
text_of t = unwrap_or (string t) []

-- the text of a number, seen at one level
abbrev pub number_layer : Json-F Json → Option (List ℕ)
number_layer Json-F.Null = None
number_layer (Json-F.Bool b) = None
number_layer (Json-F.Num s) = Some s
number_layer (Json-F.Str s) = None
number_layer (Json-F.Arr xs) = None
number_layer (Json-F.Obj ps) = None

-- the text of a number
abbrev pub number : Json → Option (List ℕ)
number t = number_layer (out-Json t)

-- the value is a string
abbrev pub is_string : Json → Bool
is_string t = is_some (string t)

-- the value is a list of strings
abbrev pub is_strings : Json → Bool
is_strings t = is_list t && list_all is_string (items t)

-- the text of a whole number that isn't negative: `0`, or digits that begin with another one
abbrev pub is_whole_text : List ℕ → Bool
is_whole_text s = nat_le 1 (length s) && list_all is_ascii_digit s && (not (slice_index s 0 == 48) || (length s == 1))

-- ---- what may be absent

-- there is a value, and the test holds of it
abbrev pub there_and : {A : Type 0} → (A → Bool) → Option A → Bool
there_and test None = false
there_and test (Some v) = test v

-- the test holds of the value, if there is one
abbrev pub absent_or : {A : Type 0} → (A → Bool) → Option A → Bool
absent_or test None = true
absent_or test (Some v) = test v

-- the string under the key
abbrev pub string_at : Json → List ℕ → Option (List ℕ)
string_at t key = option_and_then string (field t key)

-- the number under the key
abbrev pub number_at : Json → List ℕ → Option (List ℕ)
number_at t key = option_and_then number (field t key)

-- `true` stands under the key
abbrev pub is_true_at : Json → List ℕ → Bool
is_true_at t key = there_and is_true (field t key)
