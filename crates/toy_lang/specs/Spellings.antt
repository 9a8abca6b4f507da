-- Which characters are a string literal, and of which text (The Python Language Reference, 2.4.1, in lower case).
use Rattle.std.specs.Prelude.{◌≡◌, ◌≢◌, ◌⊎◌, ℕ, true, ◌+◌, ◌*◌, List, [], ◌∷◌, ◌++◌, length, Option, Some, None, option_and_then, if◌then◌else◌, ◌==◌, encode_utf8}
use Rattle.toy_lang.specs.Literals.{digit, is_scalar}

-- the character of a letter after a backslash
abbrev pub short : ℕ → Option ℕ
short c =
    if c == 92 then Some 92
    else if c == 34 then Some 34
    else if c == 116 then Some 9
    else if c == 110 then Some 10
    else if c == 114 then Some 13
    else None

-- the number of hexadecimal digits that stand behind those of n
abbrev pub code_from : ℕ → List ℕ → Option ℕ
code_from n [] = Some n
code_from n (d ∷ ds) = option_and_then (λ v. code_from (16 * n + v) ds) (digit d)

-- a letter, and as many digits as it takes of the code of a character
pub record IsCode (letter count c : ℕ) (e : List ℕ) : Type 0 where
  pub digits : List ℕ
  pub number : length digits ≡ count
  pub code : code_from 0 digits ≡ Some c
  pub scalar : is_scalar c ≡ true
  pub text : e ≡ letter ∷ digits

-- what follows a backslash, and the character that it stands for
abbrev pub IsEscape : ℕ → List ℕ → Type 0
IsEscape c e = ((letter : ℕ) × (short letter ≡ Some c) × (e ≡ letter ∷ [])) ⊎ IsCode 120 2 c e ⊎ IsCode 117 4 c e
    ⊎ IsCode 85 8 c e

-- the characters between the quotes, and the bytes of the text
pub data Letters : List ℕ → List ℕ → Type 0 where
  done : Letters [] []
  plain : (c : ℕ) (text cs : List ℕ) → c ≢ 34 → c ≢ 92 → Letters text cs → Letters (encode_utf8 c ++ text) (c ∷ cs)
  escaped : (c : ℕ) (e text cs : List ℕ) → IsEscape c e → Letters text cs
      → Letters (encode_utf8 c ++ text) (92 ∷ (e ++ cs))

-- the characters are a literal of that text
abbrev pub IsLiteral : List ℕ → List ℕ → Type 0
IsLiteral text cs = (inner : List ℕ) × Letters text inner × (cs ≡ 34 ∷ (inner ++ 34 ∷ []))
