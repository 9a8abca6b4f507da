-- The table of the toy language: the lines with an expression, what they do with its value, the name or the
-- display id that stands in them, and the expression, which is the rest of the line.
use Rattle.std.specs.Prelude.{◌≡◌, ◌≢◌, ℕ, Bool, true, List, [], ◌∷◌, ◌++◌, None, not, ◌==◌, codes}
use Rattle.std.specs.List.{list_all}
use Rattle.toy_lang.specs.declared.verb.Verb.{Verb}
use Rattle.toy_lang.specs.declared.verb.Verb.TheVariants as verb
use Rattle.toy_lang.specs.Lines.{strip_equals}
use Rattle.jtext.specs.Names.{is_name}

-- a byte other than the space
abbrev pub is_word_byte : ℕ → Bool
is_word_byte c = not (c == 32)

-- a word, which isn't empty and has no space
pub record IsWord (word : List ℕ) : Type 0 where
  pub some : word ≢ []
  pub unspaced : list_all is_word_byte word ≡ true

-- a command: its first word, and what stands behind it
pub data IsCommand : Verb → List ℕ → List ℕ → List ℕ → List ℕ → Type 0 where
  print : (e : List ℕ) → IsCommand verb.Print [] e (codes "print") e
  err : (e : List ℕ) → IsCommand verb.PrintError [] e (codes "err") e
  result : (e : List ℕ) → IsCommand verb.Conclude [] e (codes "result") e
  show : (id e : List ℕ) → IsWord id → IsCommand verb.Show id e (codes "show") (id ++ 32 ∷ e)
  update : (id e : List ℕ) → IsWord id → IsCommand verb.Update id e (codes "update") (id ++ 32 ∷ e)
  raise : (name e : List ℕ) → is_name name ≡ true → IsCommand verb.Raise name e (codes "raise") (name ++ 32 ∷ e)

-- `NAME = EXPR`, or a command that isn't of that form
pub data IsStatement : Verb → List ℕ → List ℕ → List ℕ → Type 0 where
  assign : (name e : List ℕ) → is_name name ≡ true → IsStatement verb.Assign name e (name ++ 32 ∷ (codes "= " ++ e))
  command : (v : Verb) (word e head rest : List ℕ) → IsCommand v word e head rest → strip_equals rest ≡ None
      → IsStatement v word e (head ++ 32 ∷ rest)
