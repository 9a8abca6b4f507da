-- The compact text of a tree spells it.
use Rattle.std.proofs.Common.{◌≡◌, ℕ, ◌/◌, ◌%◌, ◌<◌, ◌⊎◌, Bool, true, false, List, [], ◌∷◌, ◌++◌, map, Some, inl, inr, refl, sym, ap, subst, rules, arith}
use Rattle.std.proofs.lemmas.Bool.{cases_Bool}
use Rattle.std.proofs.lemmas.Bool.Decides.{nat_tests}
use Rattle.std.proofs.lemmas.List.{append-nil}
use Rattle.std.proofs.lemmas.Str.{encode_ascii, digit_value-digit_char, IsUtf8-append}
use Rattle.std.specs.Bool.{nat_lt}
use Rattle.std.specs.List.{flat_map}
use Rattle.std.specs.Prelude.{codes}
use Rattle.std.specs.Char.{digit_char}
use Rattle.jtext.specs.declared.json.Json.{Json, the_lemmas}
use Rattle.jtext.specs.declared.json.Json.TheVariants as json
use Rattle.jtext.specs.Strings.{Letters, done, plain, escaped, IsPlain, IsEscape, IsFour, short, Quoted}
use Rattle.jtext.specs.Grammar as grammar
use Rattle.jtext.specs.Grammar.{Spells, Spelled, Items, last_item, next_item, Pairs, last_pair, next_pair, Pair}
use Rattle.jtext.specs.Print.{escape_letter, escape_byte, quote, join, pair, word, compact}
use Rattle.jtext.proofs.Propers as proper
use Rattle.jtext.proofs.Propers.{Proper, AllProper, PairsProper, proper_of}
use Rattle.std.specs.Str.{IsUtf8}
use Rattle.std.specs.List.{AllByRecursion}
use Rattle.jtext.proofs.Utf8s.{utf8_ascii, word_utf8, number_utf8, quoted_utf8, joined_utf8, enclosed_utf8}
use Rattle.jtext.specs.Sound.{Sound}
use Rattle.jtext.specs.Keyed.{Keyed}

-- ---- strings

with_letter : (c : ℕ) → nat_lt 0 (escape_letter c) ≡ true → (c ≡ 34) ⊎ (c ≡ 92) ⊎ (c ≡ 8) ⊎ (c ≡ 9) ⊎ (c ≡ 10) ⊎ (c ≡ 12) ⊎ (c ≡ 13)
with_letter c e = grind (arith, nat_tests)

short_is : (c : ℕ) → (c ≡ 34) ⊎ (c ≡ 92) ⊎ (c ≡ 8) ⊎ (c ≡ 9) ⊎ (c ≡ 10) ⊎ (c ≡ 12) ⊎ (c ≡ 13) → (short (escape_letter c) ≡ Some c) × (c < 128)
short_is c (inl e) = subst (λ x. (short (escape_letter x) ≡ Some x) × (x < 128)) (sym e) (refl, omega arith)
short_is c (inr (inl e)) = subst (λ x. (short (escape_letter x) ≡ Some x) × (x < 128)) (sym e) (refl, omega arith)
short_is c (inr (inr (inl e))) = subst (λ x. (short (escape_letter x) ≡ Some x) × (x < 128)) (sym e) (refl, omega arith)
short_is c (inr (inr (inr (inl e)))) = subst (λ x. (short (escape_letter x) ≡ Some x) × (x < 128)) (sym e) (refl, omega arith)
short_is c (inr (inr (inr (inr (inl e))))) = subst (λ x. (short (escape_letter x) ≡ Some x) × (x < 128)) (sym e) (refl, omega arith)
short_is c (inr (inr (inr (inr (inr (inl e)))))) = subst (λ x. (short (escape_letter x) ≡ Some x) × (x < 128)) (sym e) (refl, omega arith)
short_is c (inr (inr (inr (inr (inr (inr e)))))) = subst (λ x. (short (escape_letter x) ≡ Some x) × (x < 128)) (sym e) (refl, omega arith)

low_four : (c : ℕ) → c < 32 → IsFour c (48 ∷ 48 ∷ digit_char (c / 16) ∷ digit_char (c % 16) ∷ [])
low_four c lt =
    let hi = digit_value-digit_char (c / 16) (omega arith) in
    let lo = digit_value-digit_char (c % 16) (omega arith) in
    record { p = 48; q = 48; r = digit_char (c / 16); s = digit_char (c % 16); is_p = omega arith; is_q = omega arith; is_r = omega (arith, hi); is_s = omega (arith, lo); number = omega (arith, hi, lo); text = refl }

one_more : (c : ℕ) (e text b : List ℕ) → c < 128 → IsEscape c e → Letters text b → Letters (c ∷ text) (92 ∷ (e ++ b))
one_more c e text b lt is letters = escaped c e (c ∷ text) text (92 ∷ (e ++ b)) b is letters (ap (λ x. x ++ text) (sym (encode_ascii c lt))) refl

plain_is : (c : ℕ) → nat_lt 0 (escape_letter c) ≡ false → nat_lt c 32 ≡ false → IsPlain c
plain_is c e d = (grind (arith, nat_tests), grind (arith, nat_tests), grind (arith, nat_tests))

byte_spelled : (c : ℕ) (text b : List ℕ) → Letters text b → Letters (c ∷ text) (escape_byte c ++ b)
unfolding escape_byte
byte_spelled c text b letters =
    elim (cases_Bool (nat_lt 0 (escape_letter c))) [
      | inl e ↦ let s = short_is c (with_letter c e) in rw e (one_more c (escape_letter c ∷ []) text b s.1 (inl (escape_letter c, s.0, refl)) letters)
      | inr e ↦
          elim (cases_Bool (nat_lt c 32)) [
            | inl d ↦
                let lt : c < 32 = grind (arith, nat_tests) in
                rw (e, d) (one_more c (117 ∷ 48 ∷ 48 ∷ digit_char (c / 16) ∷ digit_char (c % 16) ∷ []) text b (omega (arith, lt)) (inr (inl (48 ∷ 48 ∷ digit_char (c / 16) ∷ digit_char (c % 16) ∷ [], low_four c lt, inl (omega (arith, lt)), refl))) letters)
            | inr d ↦ rw (e, d) (plain c text b (plain_is c e d) letters)
          ]
    ]

letters_of : (s : List ℕ) → Letters s (flat_map escape_byte s)
letters_of [] = done
letters_of (c ∷ cs) = byte_spelled c cs (flat_map escape_byte cs) (letters_of cs)

pub quoted_spelled : (s : List ℕ) → Quoted s (quote s)
quoted_spelled s = (flat_map escape_byte s, letters_of s, refl)

-- ---- trees

compact-Null : compact json.Null ≡ codes "null"
compact-Null = search (rules, the_lemmas)

compact-Bool : (b : Bool) → compact (json.Bool b) ≡ word b
compact-Bool b = search (rules, the_lemmas)

compact-Num : (s : List ℕ) → compact (json.Num s) ≡ s
compact-Num s = search (rules, the_lemmas)

compact-Str : (s : List ℕ) → compact (json.Str s) ≡ quote s
compact-Str s = search (rules, the_lemmas)

compact-Arr : (xs : List Json) → compact (json.Arr xs) ≡ 91 ∷ (join (map compact xs) ++ 93 ∷ [])
compact-Arr xs = search (rules, the_lemmas)

compact-Obj : (ps : List (List ℕ × Json)) → compact (json.Obj ps) ≡ 123 ∷ (join (map pair (map (λ p. (p.0, compact p.1)) ps)) ++ 125 ∷ [])
compact-Obj ps = search (rules, the_lemmas)

pair_spell : (key : List ℕ) (value : Json) → Spelled value (compact value) → Pair (key, value) (pair (key, compact value))
pair_spell key value is = grammar.pair key value (quote key) [] [] (compact value) (pair (key, compact value)) (quoted_spelled key) tt tt is refl

abbrev ItemsSpelled : List Json → Type 0
ItemsSpelled [] = Unit {0}
ItemsSpelled (x ∷ xs) = Items (x ∷ xs) (join (map compact (x ∷ xs)))

abbrev PairsSpelled : List (List ℕ × Json) → Type 0
PairsSpelled [] = Unit {0}
PairsSpelled (p ∷ ps) = Pairs (p ∷ ps) (join (map pair (map (λ q. (q.0, compact q.1)) (p ∷ ps))))

mutual
  pub compact_spells : (t : Json) → Proper t → Spelled t (compact t)
  compact_spells _ proper.null = grammar.null (compact json.Null) compact-Null
  compact_spells _ (proper.boolean true) = grammar.yes (compact (json.Bool true)) (compact-Bool true)
  compact_spells _ (proper.boolean false) = grammar.no (compact (json.Bool false)) (compact-Bool false)
  compact_spells _ (proper.number s is) = subst (Spelled (json.Num s)) (sym (compact-Num s)) (grammar.number s is)
  compact_spells _ (proper.text s u) = subst (Spelled (json.Str s)) (sym (compact-Str s)) (grammar.string s (quote s) (quoted_spelled s))
  compact_spells _ (proper.array [] all) = grammar.no_items [] (compact (json.Arr [])) tt (compact-Arr [])
  compact_spells _ (proper.array (x ∷ xs) all) = grammar.array (x ∷ xs) (join (map compact (x ∷ xs))) (compact (json.Arr (x ∷ xs))) (items_spell (x ∷ xs) all) (compact-Arr (x ∷ xs))
  compact_spells _ (proper.object [] all d) = grammar.no_pairs [] (compact (json.Obj [])) tt (compact-Obj [])
  compact_spells _ (proper.object (p ∷ ps) all d) = grammar.object (p ∷ ps) (join (map pair (map (λ q. (q.0, compact q.1)) (p ∷ ps)))) (compact (json.Obj (p ∷ ps))) (pairs_spell (p ∷ ps) all) d (compact-Obj (p ∷ ps))

  items_spell : (xs : List Json) → AllProper xs → ItemsSpelled xs
  items_spell _ proper.none = tt
  items_spell _ (proper.more x [] is all) = last_item x [] (compact x) [] (join (compact x ∷ [])) tt (compact_spells x is) tt refl
  items_spell _ (proper.more x (y ∷ ys) is all) = next_item x (y ∷ ys) [] (compact x) [] (join (map compact (y ∷ ys))) _ tt (compact_spells x is) tt (items_spell (y ∷ ys) all) refl

  pairs_spell : (ps : List (List ℕ × Json)) → PairsProper ps → PairsSpelled ps
  pairs_spell _ proper.no_pairs = tt
  pairs_spell _ (proper.pair key value [] u is all) = last_pair (key, value) [] (pair (key, compact value)) [] _ tt (pair_spell key value (compact_spells value is)) tt refl
  pairs_spell _ (proper.pair key value (q ∷ qs) u is all) =
      next_pair (key, value) (q ∷ qs) [] (pair (key, compact value)) [] (join (map pair (map (λ p. (p.0, compact p.1)) (q ∷ qs)))) _ tt (pair_spell key value (compact_spells value is)) tt (pairs_spell (q ∷ qs) all) refl

-- ---- UTF-8

mutual
  compact_utf8 : (t : Json) → Proper t → IsUtf8 (compact t)
  compact_utf8 _ proper.null = subst IsUtf8 (sym compact-Null) (utf8_ascii (codes "null") (omega arith, (omega arith, (omega arith, (omega arith, tt)))))
  compact_utf8 _ (proper.boolean b) = subst IsUtf8 (sym (compact-Bool b)) (word_utf8 b)
  compact_utf8 _ (proper.number s is) = subst IsUtf8 (sym (compact-Num s)) (number_utf8 s is)
  compact_utf8 _ (proper.text s u) = subst IsUtf8 (sym (compact-Str s)) (quoted_utf8 s u)
  compact_utf8 _ (proper.array xs all) = subst IsUtf8 (sym (compact-Arr xs)) (enclosed_utf8 91 93 (join (map compact xs)) (omega arith) (omega arith) (joined_utf8 (map compact xs) (items_utf8 xs all)))
  compact_utf8 _ (proper.object ps all d) =
      subst IsUtf8 (sym (compact-Obj ps)) (enclosed_utf8 123 125 (join (map pair (map (λ p. (p.0, compact p.1)) ps))) (omega arith) (omega arith) (joined_utf8 (map pair (map (λ p. (p.0, compact p.1)) ps)) (pairs_utf8 ps all)))

  items_utf8 : (xs : List Json) → AllProper xs → AllByRecursion IsUtf8 (map compact xs)
  items_utf8 _ proper.none = tt
  items_utf8 _ (proper.more x xs is all) = (compact_utf8 x is, items_utf8 xs all)

  pairs_utf8 : (ps : List (List ℕ × Json)) → PairsProper ps → AllByRecursion IsUtf8 (map pair (map (λ p. (p.0, compact p.1)) ps))
  pairs_utf8 _ proper.no_pairs = tt
  pairs_utf8 _ (proper.pair key value ps u is all) =
      (IsUtf8-append (quote key) (58 ∷ compact value) (quoted_utf8 key u) (IsUtf8-append (58 ∷ []) (compact value) (utf8_ascii (58 ∷ []) (omega arith, tt)) (compact_utf8 value is)), pairs_utf8 ps all)

pub compact_text : (t : Json) → Sound t → Keyed t → Spells t (compact t)
compact_text t s k =
    let is = proper_of t s k in
    record { before = []; value = compact t; after = []; is_before = tt; is_value = compact_spells t is; is_after = tt; utf8 = compact_utf8 t is; text = sym (append-nil (compact t)) }
