-- Why bytes are refused, and at which place (RFC 8259). Of several faults the first counts: what stands before a fault is free of faults.
use Rattle.std.specs.Prelude.{◌≡◌, ◌⊎◌, ℕ, suc, ◌≤◌, Bool, true, false, ◌&&◌, ◌==◌, nat_le, List, [], ◌∷◌, ◌++◌, length, Result, Ok, Err}
use Rattle.std.specs.List.{AllByRecursion}
use Rattle.std.specs.Char.{digit_value}
use Rattle.std.specs.Str.{IsUtf8, IsValidUpTo}
use Rattle.jtext.specs.declared.json.Json.{Json}
use Rattle.jtext.specs.declared.fault.JsonFault.{JsonFault}
use Rattle.jtext.specs.declared.fault.JsonFault.TheVariants.{NotUtf8, Bad, Deep, Repeated, Lone, NoMemory}
use Rattle.jtext.specs.Depth.{depth}
use Rattle.jtext.specs.Grammar.{AreSpaces, Items, Pairs, Lacks, Distinct}
use Rattle.jtext.specs.Loose.{Broken}
use Rattle.jtext.specs.Strings.{Letters, Quoted, IsFour, IsHigh, IsLow}

-- ---- what stands before a place, in a text whose lists and objects may nest that deep

mutual
  -- before a value, where so many more levels may open
  pub data BeforeValue (deep : ℕ) : ℕ → List ℕ → Type 0 where
    outermost : (b : List ℕ) → AreSpaces b → BeforeValue deep deep b
    first_item : (room : ℕ) (left w b : List ℕ) → BeforeValue deep (suc room) left → AreSpaces w → b ≡ left ++ 91 ∷ w → BeforeValue deep room b
    next_item : (room : ℕ) (xs : List Json) (left inner w b : List ℕ) → BeforeValue deep (suc room) left → Items xs inner → AllByRecursion (λ x. depth x ≤ room) xs → AreSpaces w
        → b ≡ left ++ 91 ∷ (inner ++ 44 ∷ w) → BeforeValue deep room b
    member : (room : ℕ) (ps : List (List ℕ × Json)) (key left name v w b : List ℕ) → BeforeKey deep room ps left → Quoted key name → Lacks key ps → AreSpaces v → AreSpaces w
        → b ≡ left ++ (name ++ (v ++ 58 ∷ w)) → BeforeValue deep room b

  -- before a key, after those pairs of its object
  pub data BeforeKey (deep : ℕ) : ℕ → List (List ℕ × Json) → List ℕ → Type 0 where
    first_key : (room : ℕ) (left w b : List ℕ) → BeforeValue deep (suc room) left → AreSpaces w → b ≡ left ++ 123 ∷ w → BeforeKey deep room [] b
    next_key : (room : ℕ) (ps : List (List ℕ × Json)) (left inner w b : List ℕ) → BeforeValue deep (suc room) left → Pairs ps inner → Distinct ps → AllByRecursion (λ p. depth p.1 ≤ room) ps → AreSpaces w
        → b ≡ left ++ 123 ∷ (inner ++ 44 ∷ w) → BeforeKey deep room ps b

-- within a string: before a letter or an escape of it
pub data WithinString (deep : ℕ) : List ℕ → Type 0 where
  in_value : (room : ℕ) (left text inner b : List ℕ) → BeforeValue deep room left → Letters text inner → b ≡ left ++ 34 ∷ inner → WithinString deep b
  in_key : (room : ℕ) (ps : List (List ℕ × Json)) (left text inner b : List ℕ) → BeforeKey deep room ps left → Letters text inner → b ≡ left ++ 34 ∷ inner → WithinString deep b

-- ---- lone surrogates

-- as far as the bytes go, each passes its test
abbrev pub fits : List (ℕ → Bool) → List ℕ → Bool
fits [] b = true
fits (test ∷ tests) [] = true
fits (test ∷ tests) (c ∷ cs) = test c && fits tests cs

-- the byte is a hexadecimal digit with a value in that range
abbrev pub is_within : ℕ → ℕ → ℕ → Bool
is_within least most c = nat_le least (digit_value c) && nat_le (digit_value c) most

-- the escape of a low surrogate, byte by byte: `\u`, and the digits of a number from DC00 to DFFF
abbrev pub low_escape : List (ℕ → Bool)
low_escape = (λ c. c == 92) ∷ (λ c. c == 117) ∷ is_within 13 13 ∷ is_within 12 15 ∷ is_within 0 15 ∷ is_within 0 15 ∷ []

-- the bytes begin with the escape of a low surrogate, or with that of a high one which neither the escape of a low one follows nor, up to the end, a front of such an escape
pub data IsLone : List ℕ → Type 0 where
  low : (n : ℕ) (digits more b : List ℕ) → IsFour n digits → IsLow n → b ≡ 92 ∷ 117 ∷ (digits ++ more) → IsLone b
  high : (n : ℕ) (digits more b : List ℕ) → IsFour n digits → IsHigh n → fits low_escape more ≡ false → b ≡ 92 ∷ 117 ∷ (digits ++ more) → IsLone b

-- ---- the faults, each at the offset of the byte that comes after left

-- an opening bracket or brace for which there is no level
pub record IsDeep (deep : ℕ) (b : List ℕ) (n : ℕ) : Type 0 where
  pub left : List ℕ
  pub right : List ℕ
  pub split : b ≡ left ++ right
  pub here : length left ≡ n
  pub before : BeforeValue deep 0 left
  pub opens : (more : List ℕ) × ((right ≡ 91 ∷ more) ⊎ (right ≡ 123 ∷ more))

-- a key that an earlier pair of its object has, by the texts of both
pub record IsRepeated (deep : ℕ) (b : List ℕ) (n : ℕ) : Type 0 where
  pub left : List ℕ
  pub right : List ℕ
  pub split : b ≡ left ++ right
  pub here : length left ≡ n
  pub room : ℕ
  pub pairs : List (List ℕ × Json)
  pub before : BeforeKey deep room pairs left
  pub key : List ℕ
  pub name : List ℕ
  pub more : List ℕ
  pub spelled : Quoted key name
  pub text : right ≡ name ++ more
  pub taken : Lacks key pairs → ⊥

-- an escape of a surrogate that stands alone
pub record IsAlone (deep : ℕ) (b : List ℕ) (n : ℕ) : Type 0 where
  pub left : List ℕ
  pub right : List ℕ
  pub split : b ≡ left ++ right
  pub here : length left ≡ n
  pub before : WithinString deep left
  pub alone : IsLone right

-- none of the three stands anywhere
pub record HasNone (deep : ℕ) (b : List ℕ) : Type 0 where
  pub not_deep : (n : ℕ) → IsDeep deep b n → ⊥
  pub not_repeated : (n : ℕ) → IsRepeated deep b n → ⊥
  pub not_alone : (n : ℕ) → IsAlone deep b n → ⊥

-- that fault stands in the bytes
abbrev pub Refused : ℕ → List ℕ → JsonFault → Type 0
Refused deep b (NotUtf8 n) = IsValidUpTo b n
Refused deep b (Bad n) = IsUtf8 b × Broken b n × HasNone deep b
Refused deep b (Deep n) = IsUtf8 b × IsDeep deep b n
Refused deep b (Repeated n) = IsUtf8 b × IsRepeated deep b n
Refused deep b (Lone n) = IsUtf8 b × IsAlone deep b n
Refused deep b NoMemory = ⊥

-- a refusal is of the fault that stands, but for want of memory
abbrev pub Stands : ℕ → List ℕ → Result Json JsonFault → Type 0
Stands deep b (Ok t) = Unit {0}
Stands deep b (Err NoMemory) = Unit {0}
Stands deep b (Err (NotUtf8 n)) = Refused deep b (NotUtf8 n)
Stands deep b (Err (Bad n)) = Refused deep b (Bad n)
Stands deep b (Err (Deep n)) = Refused deep b (Deep n)
Stands deep b (Err (Repeated n)) = Refused deep b (Repeated n)
Stands deep b (Err (Lone n)) = Refused deep b (Lone n)

-- the answer is that fault, but for want of memory
abbrev pub Answers : Result Json JsonFault → JsonFault → Type 0
Answers (Ok t) f = ⊥
Answers (Err NoMemory) f = Unit {0}
Answers (Err (NotUtf8 n)) f = f ≡ NotUtf8 n
Answers (Err (Bad n)) f = f ≡ Bad n
Answers (Err (Deep n)) f = f ≡ Deep n
Answers (Err (Repeated n)) f = f ≡ Repeated n
Answers (Err (Lone n)) f = f ≡ Lone n
