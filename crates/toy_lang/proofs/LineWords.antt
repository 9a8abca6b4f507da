-- A line parted at its first space.
use Rattle.std.proofs.Common.{◌≡◌, ℕ, suc, ◌+◌, ◌<◌, Bool, true, false, cond, not, ◌&&◌, ◌==◌, List, [], ◌∷◌, ◌++◌, length, take, drop, Option, Some, None, refl, sym, ap, subst, ◌∙◌, arith}
use Rattle.std.specs.Prelude.{nat_lt, slice_index}
use Rattle.std.specs.List.{list_all, position_or_len}
use Rattle.std.proofs.lemmas.Bool.{cond-true, and_from, and_parts}
use Rattle.std.proofs.lemmas.Bool.Decides.{nat_tests}
use Rattle.std.proofs.lemmas.List.{length-append}
use Rattle.std.proofs.Math.Seq.{take-append_seam, drop-append-add}
use Rattle.toy_lang.specs.Lines.{split_word}
use Rattle.toy_lang.specs.Table.{is_word_byte}
use Rattle.jtext.specs.Names.{is_name, is_name_byte, is_letter}

word_before : (w rest : List ℕ) → list_all is_word_byte w ≡ true
    → position_or_len (λ c. c == 32) (w ++ 32 ∷ rest) ≡ length w
word_before [] rest h = refl
word_before (c ∷ cs) rest h =
    let t = and_parts (is_word_byte c) (list_all is_word_byte cs) h in
    let more = word_before cs rest t.1 in
    let n : ℕ = position_or_len (λ x. x == 32) (cs ++ 32 ∷ rest) in
    let grown : 1 + n ≡ length (c ∷ cs) = omega (arith, more) in
    cond-true (is_word_byte c) (1 + n) 0 t.0 ∙ grown

-- the first word and what stands behind it
pub word_split : (w rest : List ℕ) → list_all is_word_byte w ≡ true → split_word (w ++ 32 ∷ rest) ≡ Some (w, rest)
word_split w rest h =
    let at = word_before w rest h in
    let line : List ℕ = w ++ 32 ∷ rest in
    let long = length-append w (32 ∷ rest) in
    let below : nat_lt (position_or_len (λ c. c == 32) line) (length line)
    ≡ true = grind (arith, nat_tests, at, long) in
    cond-true (nat_lt (position_or_len (λ c. c == 32) line) (length line)) _ None below
    ∙ ap (λ n. Some (take n line, drop (n + 1) line)) at
    ∙ ap (λ f. Some (f, drop (length w + 1) line)) (take-append_seam w (32 ∷ rest))
    ∙ ap (λ r. Some (w, r)) (behind w)
  where
    behind : (v : List ℕ) → drop (length v + 1) (v ++ 32 ∷ rest) ≡ rest
    behind v = drop-append-add v (32 ∷ rest) 1

name_byte_unspaced : (c : ℕ) → is_name_byte c ≡ true → is_word_byte c ≡ true
name_byte_unspaced c e = by_test (c == 32) refl
  where
    not_name : is_name_byte 32 ≡ true → ⊥
    not_name h = cc

    by_test : (b : Bool) → (c == 32) ≡ b → is_word_byte c ≡ true
    by_test false is = ap not is
    by_test true is =
        let space : c ≡ 32 = grind (arith, nat_tests) in
        let bad : is_name_byte 32 ≡ true = ap is_name_byte (sym space) ∙ e in absurd (not_name bad)

all_unspaced : (w : List ℕ) → list_all is_name_byte w ≡ true → list_all is_word_byte w ≡ true
all_unspaced [] h = refl
all_unspaced (c ∷ cs) h =
    let t = and_parts (is_name_byte c) (list_all is_name_byte cs) h in
    and_from (is_word_byte c) (list_all is_word_byte cs) (name_byte_unspaced c t.0) (all_unspaced cs t.1)

-- a name has no space
pub name_unspaced : (w : List ℕ) → is_name w ≡ true → list_all is_word_byte w ≡ true
name_unspaced w h = all_unspaced w (and_parts (nat_lt 0 (length w) && is_letter (slice_index w 0))
    (list_all is_name_byte w) h).1

-- ---- back

-- the line around the place n
abbrev Parts : List ℕ → ℕ → Type 0
Parts line n = (line ≡ take n line ++ 32 ∷ drop (n + 1) line) × (list_all is_word_byte (take n line) ≡ true)

at_first : (line : List ℕ) → position_or_len (λ c. c == 32) line < length line
    → Parts line (position_or_len (λ c. c == 32) line)
at_first [] lt = absurd (omega arith)
at_first (c ∷ cs) lt = by_test (position_or_len (λ x. x == 32) cs) (is_word_byte c) refl lt (at_first cs)
  where
    by_test : (n : ℕ) (b : Bool) → is_word_byte c ≡ b → cond b (1 + n) 0 < length (c ∷ cs)
        → (n < length cs → Parts cs n) → Parts (c ∷ cs) (cond b (1 + n) 0)
    by_test n false is below more = let space : c ≡ 32 = grind (arith, nat_tests) in (ap (λ x. x ∷ cs) space, refl)
    by_test n true is below more =
        let parts = more (omega (arith, below)) in
        let one : suc n ≡ 1 + n = omega arith in
        let next : n + 1 ≡ suc n = omega arith in
        let P : ℕ → Type 0 = Parts (c ∷ cs) in
        let here : P (suc n) = (
          ap (λ l. c ∷ l) parts.0 ∙ ap (λ k. c ∷ (take n cs ++ 32 ∷ drop k (c ∷ cs)))
              (let e : suc (n + 1) ≡ suc n + 1 = omega arith in e),
          and_from (is_word_byte c) (list_all is_word_byte (take n cs)) is parts.1,
        ) in
        subst P one here

-- a line that is parted is its parts with a space between
pub parted : (line : List ℕ) (p : List ℕ × List ℕ) → split_word line ≡ Some p → (line ≡ p.0 ++ 32 ∷ p.1)
    × (list_all is_word_byte p.0 ≡ true)
parted line p e = by_test (nat_lt (position_or_len (λ c. c == 32) line) (length line)) refl e
  where
    some_pair : (q r : List ℕ × List ℕ) → ◌≡◌ {A = Option (List ℕ × List ℕ)} (Some q) (Some r) → q ≡ r
    some_pair q r h = cc

    by_test : (b : Bool) → nat_lt (position_or_len (λ c. c == 32) line) (length line) ≡ b
        → cond b (Some (
          take (position_or_len (λ c. c == 32) line) line,
          drop
              (position_or_len (λ c. c == 32) line + 1) line,
        )) None ≡ Some p
        → (line ≡ p.0 ++ 32 ∷ p.1) × (list_all is_word_byte p.0 ≡ true)
    by_test false is h = cc
    by_test true is h =
        let lt : position_or_len (λ c. c == 32) line < length line = grind (arith, nat_tests) in
        let Q : List ℕ × List ℕ → Type 0 = λ q. (line ≡ q.0 ++ 32 ∷ q.1) × (list_all is_word_byte q.0 ≡ true) in
        subst Q (some_pair _ p h) (at_first line lt)
