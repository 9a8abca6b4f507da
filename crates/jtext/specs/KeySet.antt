-- Sets of the keys of an object (RFC 8259, section 4: the names within an object should be unique).
use Rattle.std.specs.Prelude.{◌≡◌, ℕ, List, String, cond, true}
use Rattle.std.specs.Str.{bytes_eq}
use Rattle.std.specs.BTreeSet.{BTreeSet, contains_text}
use Rattle.jtext.specs.declared.json.Json.{Json}
use Rattle.jtext.specs.Reading.{has_key}

-- the set has the keys of the pairs, and no other
abbrev pub HasKeys : {Y : Type 0} → BTreeSet (String Y) → List (List ℕ × Json) → Type 0
HasKeys keys ps = (q : List ℕ) → contains_text keys q ≡ has_key ps q

-- the set has this key and those of the pairs, and no other
abbrev pub HasKeysAnd : {Y : Type 0} → List ℕ → BTreeSet (String Y) → List (List ℕ × Json) → Type 0
HasKeysAnd key keys ps =
    (q : List ℕ) → contains_text keys q ≡ cond (bytes_eq key q) true (has_key ps q)
