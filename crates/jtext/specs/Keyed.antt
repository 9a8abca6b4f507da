-- Trees in which no key stands twice (RFC 8259, section 4: names within an object should be unique).
use Rattle.std.specs.Prelude.{ℕ, Bool, List, [], ◌∷◌}
use Rattle.jtext.specs.Grammar.{Distinct}
use Rattle.jtext.specs.declared.json.Json.{Json}
use Rattle.jtext.specs.declared.json.Json.TheVariants as json

mutual
  -- no object in the tree has a key twice
  pub data Keyed : Json → Type 0 where
    null : Keyed json.Null
    boolean : (b : Bool) → Keyed (json.Bool b)
    number : (s : List ℕ) → Keyed (json.Num s)
    text : (s : List ℕ) → Keyed (json.Str s)
    array : (xs : List Json) → AllKeyed xs → Keyed (json.Arr xs)
    object : (ps : List (List ℕ × Json)) → PairsKeyed ps → Distinct ps → Keyed (json.Obj ps)

  -- no object in any of these trees has a key twice
  pub data AllKeyed : List Json → Type 0 where
    none : AllKeyed []
    more : (x : Json) (xs : List Json) → Keyed x → AllKeyed xs → AllKeyed (x ∷ xs)

  -- no object in the value of any of these pairs has a key twice
  pub data PairsKeyed : List (List ℕ × Json) → Type 0 where
    no_pairs : PairsKeyed []
    pair : (key : List ℕ) (value : Json) (ps : List (List ℕ × Json)) → Keyed value → PairsKeyed ps → PairsKeyed ((key, value) ∷ ps)
