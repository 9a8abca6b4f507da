-- JSON texts without trees (RFC 8259): lists and objects nest to any depth, keys may repeat, and surrogates may stand alone. Which bytes begin a JSON text is told by it.
use Rattle.std.specs.Prelude.{◌≡◌, ◌⊎◌, ℕ, List, [], ◌∷◌, ◌++◌, length, codes, Some}
use Rattle.jtext.specs.Grammar.{AreSpaces}
use Rattle.jtext.specs.Number.{IsNumber}
use Rattle.jtext.specs.Strings.{IsPlain, IsFour, short}

-- the bytes between the quotes of a string (section 7); any four digits make an escape
pub data Characters : List ℕ → Type 0 where
  no_more : Characters []
  itself : (c : ℕ) (b : List ℕ) → IsPlain c → Characters b → Characters (c ∷ b)
  letter : (c d : ℕ) (more b : List ℕ) → short c ≡ Some d → Characters more → b ≡ 92 ∷ c ∷ more → Characters b
  digits : (n : ℕ) (four more b : List ℕ) → IsFour n four → Characters more → b ≡ 92 ∷ 117 ∷ (four ++ more) → Characters b

-- a string
abbrev pub IsString : List ℕ → Type 0
IsString b = (inner : List ℕ) × Characters inner × (b ≡ 34 ∷ (inner ++ 34 ∷ []))

-- one of the three words (section 3)
abbrev pub IsWord : List ℕ → Type 0
IsWord b = (b ≡ codes "null") ⊎ (b ≡ codes "true") ⊎ (b ≡ codes "false")

mutual
  -- a value, with no white space around it (section 3)
  pub data Value : List ℕ → Type 0 where
    word : (b : List ℕ) → IsWord b → Value b
    number : (b : List ℕ) → IsNumber b → Value b
    string : (b : List ℕ) → IsString b → Value b
    empty_array : (inner b : List ℕ) → AreSpaces inner → b ≡ 91 ∷ (inner ++ 93 ∷ []) → Value b
    array : (inner b : List ℕ) → Values inner → b ≡ 91 ∷ (inner ++ 93 ∷ []) → Value b
    empty_object : (inner b : List ℕ) → AreSpaces inner → b ≡ 123 ∷ (inner ++ 125 ∷ []) → Value b
    object : (inner b : List ℕ) → Members inner → b ≡ 123 ∷ (inner ++ 125 ∷ []) → Value b

  -- one value or more, with white space around each and a comma between (section 5)
  pub data Values : List ℕ → Type 0 where
    last_value : (before inner after b : List ℕ) → AreSpaces before → Value inner → AreSpaces after → b ≡ before ++ (inner ++ after) → Values b
    next_value : (before inner after more b : List ℕ) → AreSpaces before → Value inner → AreSpaces after → Values more → b ≡ before ++ (inner ++ (after ++ 44 ∷ more)) → Values b

  -- one member or more, each a string, a colon and a value, with a comma between (section 4)
  pub data Members : List ℕ → Type 0 where
    last_member : (before name left right inner after b : List ℕ) → AreSpaces before → IsString name → AreSpaces left → AreSpaces right → Value inner → AreSpaces after
        → b ≡ before ++ (name ++ (left ++ 58 ∷ (right ++ (inner ++ after)))) → Members b
    next_member : (before name left right inner after more b : List ℕ) → AreSpaces before → IsString name → AreSpaces left → AreSpaces right → Value inner → AreSpaces after → Members more
        → b ≡ before ++ (name ++ (left ++ 58 ∷ (right ++ (inner ++ (after ++ 44 ∷ more))))) → Members b

-- a text: a value with white space around it (section 2)
pub record IsText (b : List ℕ) : Type 0 where
  pub before : List ℕ
  pub inner : List ℕ
  pub after : List ℕ
  pub is_before : AreSpaces before
  pub value : Value inner
  pub is_after : AreSpaces after
  pub text : b ≡ before ++ (inner ++ after)

-- some continuation makes the bytes a text
abbrev pub IsBegun : List ℕ → Type 0
IsBegun b = (more : List ℕ) × IsText (b ++ more)

-- with the next byte none does, or there is none and the bytes are no text
abbrev pub NoneGoesOn : List ℕ → List ℕ → Type 0
NoneGoesOn front [] = IsText front → ⊥
NoneGoesOn front (c ∷ cs) = (more : List ℕ) → IsText (front ++ c ∷ more) → ⊥

-- the bytes are no text, and so many of them are the longest front that some continuation makes one
pub record Broken (b : List ℕ) (n : ℕ) : Type 0 where
  pub front : List ℕ
  pub rest : List ℕ
  pub split : b ≡ front ++ rest
  pub here : length front ≡ n
  pub begun : IsBegun front
  pub ends : NoneGoesOn front rest
