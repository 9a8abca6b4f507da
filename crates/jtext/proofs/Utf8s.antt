-- What is written of UTF-8 is UTF-8.
use Rattle.std.proofs.Common.{◌≡◌, ℕ, zero, suc, ◌<◌, ◌≤◌, ◌/◌, ◌%◌, ◌⊎◌, inl, inr, Bool, true, false, List, [], ◌∷◌, ◌++◌, length, get_or, refl, sym, ap₂, subst, arith}
use Rattle.std.proofs.lemmas.Bool.{cases_Bool, cases_lt, and_parts}
use Rattle.std.proofs.lemmas.Bool.Decides.{nat_tests}
use Rattle.std.proofs.lemmas.Str.{IsUtf8-append, IsUtf8-nil, IsUtf8-from_ascii, IsUtf8-encode, encode_ascii, inside_one}
use Rattle.std.proofs.lemmas.List.{append-nil}
use Rattle.std.proofs.lemmas.List.Concat.{flat_map-append}
use lib.Utf8.{scalar, scalars, encode, encodes}
use Rattle.std.specs.Bool.{nat_lt}
use Rattle.std.specs.List.{flat_map, AllByRecursion}
use Rattle.std.specs.Str.{IsUtf8}
use Rattle.std.specs.Char.{digit_char}
use Rattle.jtext.specs.Number.{IsNumber, AreAllDigits, IsMinus, IsSign, IsWhole, IsFraction, IsExponent}
use Rattle.jtext.specs.Print.{escape_letter, escape_byte, quote, join, word}
use Rattle.std.specs.Prelude.{codes}

-- ---- ASCII

abbrev pub Ascii : List ℕ → Type 0
Ascii b = AllByRecursion (λ c. c < 128) b

at_place : (b : List ℕ) → Ascii b → (i : ℕ) → get_or b i 0 < 128
at_place [] all i = omega arith
at_place (c ∷ cs) all zero = all.0
at_place (c ∷ cs) all (suc i) = at_place cs all.1 i

pub utf8_ascii : (b : List ℕ) → Ascii b → IsUtf8 b
utf8_ascii b all = IsUtf8-from_ascii b (at_place b all)

pub ascii-append : (a b : List ℕ) → Ascii a → Ascii b → Ascii (a ++ b)
ascii-append [] b p q = q
ascii-append (c ∷ cs) b p q = (p.0, ascii-append cs b p.1 q)

digits_ascii : (ds : List ℕ) → AreAllDigits ds → Ascii ds
digits_ascii [] all = tt
digits_ascii (d ∷ ds) all = (omega (arith, all.0.1), digits_ascii ds all.1)

minus_ascii : (b : List ℕ) → IsMinus b → Ascii b
minus_ascii b (inl e) = subst Ascii (sym e) tt
minus_ascii b (inr e) = subst Ascii (sym e) (omega arith, tt)

sign_ascii : (b : List ℕ) → IsSign b → Ascii b
sign_ascii b (inl e) = subst Ascii (sym e) tt
sign_ascii b (inr (inl e)) = subst Ascii (sym e) (omega arith, tt)
sign_ascii b (inr (inr e)) = subst Ascii (sym e) (omega arith, tt)

whole_ascii : (b : List ℕ) → IsWhole b → Ascii b
whole_ascii b (inl e) = subst Ascii (sym e) (omega arith, tt)
whole_ascii b (inr (d, ds, lo, hi, all, e)) = subst Ascii (sym e) (omega (arith, hi), digits_ascii ds all)

fraction_ascii : (b : List ℕ) → IsFraction b → Ascii b
fraction_ascii b (inl e) = subst Ascii (sym e) tt
fraction_ascii b (inr (ds, all, e)) = subst Ascii (sym e) (omega arith, digits_ascii ds all.1)

letter_ascii : (e : ℕ) → (e ≡ 69) ⊎ (e ≡ 101) → e < 128
letter_ascii e (inl p) = omega (arith, p)
letter_ascii e (inr p) = omega (arith, p)

exponent_ascii : (b : List ℕ) → IsExponent b → Ascii b
exponent_ascii b (inl e) = subst Ascii (sym e) tt
exponent_ascii b (inr (l, sign, ds, letter, is, all, e)) = subst Ascii (sym e) (letter_ascii l letter, ascii-append sign ds (sign_ascii sign is) (digits_ascii ds all.1))

pub number_utf8 : (b : List ℕ) → IsNumber b → IsUtf8 b
number_utf8 b is =
    utf8_ascii b (subst Ascii (sym is.text)
    (ascii-append is.minus _ (minus_ascii is.minus is.is_minus) (ascii-append is.whole _ (whole_ascii is.whole is.is_whole) (ascii-append is.fraction _ (fraction_ascii is.fraction is.is_fraction) (exponent_ascii is.exponent is.is_exponent)))))

pub word_utf8 : (b : Bool) → IsUtf8 (word b)
word_utf8 true = utf8_ascii (codes "true") (omega arith, (omega arith, (omega arith, (omega arith, tt))))
word_utf8 false = utf8_ascii (codes "false") (omega arith, (omega arith, (omega arith, (omega arith, (omega arith, tt)))))

-- ---- strings

escaped_low : (c : ℕ) → c < 128 → Ascii (escape_byte c)
unfolding escape_byte
escaped_low c lt =
    elim (cases_Bool (nat_lt 0 (escape_letter c))) [
      | inl e ↦ rw e (omega arith, (letter_low c lt, tt))
      | inr e ↦
          elim (cases_Bool (nat_lt c 32)) [
            | inl d ↦ rw (e, d) (omega arith, (omega arith, (omega arith, (omega arith, (hex_low (c / 16) (omega arith), (hex_low (c % 16) (omega arith), tt))))))
            | inr d ↦ rw (e, d) (lt, tt)
          ]
    ]
  where
    letter_low : (c : ℕ) → c < 128 → escape_letter c < 128
    letter_low c lt = grind (arith, nat_tests)

    hex_low : (d : ℕ) → d < 16 → digit_char d < 128
    hex_low d lt = grind (arith, nat_tests)

escaped_high : (c : ℕ) → 128 ≤ c → escape_byte c ≡ c ∷ []
unfolding escape_byte
escaped_high c h =
    let e : nat_lt 0 (escape_letter c) ≡ false = grind (arith, nat_tests) in
    let d : nat_lt c 32 ≡ false = grind (arith, nat_tests) in
    rw (e, d) refl

escaped_same : (b : List ℕ) → ((k : ℕ) → k < length b → 128 ≤ get_or b k 0) → flat_map escape_byte b ≡ b
escaped_same [] h = refl
escaped_same (c ∷ cs) h = ap₂ (λ (x y : List ℕ). x ++ y) (escaped_high c (h 0 (omega arith))) (escaped_same cs (λ k below. h (suc k) (omega arith)))

one_char : (c : ℕ) → scalar c ≡ true → IsUtf8 (flat_map escape_byte (encode c))
one_char c ok = elim (cases_lt c 128) [
  | inl small ↦ rw (encode_ascii c small, append-nil) (utf8_ascii (escape_byte c) (escaped_low c small))
  | inr big ↦
      let high : (k : ℕ) → k < length (encode c) → 128 ≤ get_or (encode c) k 0 = λ k below. elim (cases_lt (get_or (encode c) k 0) 128) [
        | inl low ↦ absurd (omega (arith, inside_one c [] (encode c) k (sym (append-nil _)) below low))
        | inr h ↦ h
      ] in
      subst IsUtf8 (sym (escaped_same (encode c) high)) (IsUtf8-encode c ok)
]

all_chars : (cs : List ℕ) → scalars cs ≡ true → IsUtf8 (flat_map escape_byte (encodes cs))
all_chars [] e = IsUtf8-nil
all_chars (c ∷ cs) e =
    let p = and_parts _ _ e in
    subst IsUtf8 (sym (flat_map-append escape_byte (encode c) (encodes cs))) (IsUtf8-append _ _ (one_char c p.0) (all_chars cs p.1))

pub quoted_utf8 : (s : List ℕ) → IsUtf8 s → IsUtf8 (quote s)
quoted_utf8 s u =
    let inner = subst (λ b. IsUtf8 (flat_map escape_byte b)) u.1.1 (all_chars u.0 u.1.0) in
    IsUtf8-append (34 ∷ []) (flat_map escape_byte s ++ 34 ∷ []) (utf8_ascii (34 ∷ []) (omega arith, tt)) (IsUtf8-append (flat_map escape_byte s) (34 ∷ []) inner (utf8_ascii (34 ∷ []) (omega arith, tt)))

-- ---- between brackets

more_utf8 : (bs : List (List ℕ)) → AllByRecursion IsUtf8 bs → IsUtf8 (flat_map (λ c. 44 ∷ c) bs)
more_utf8 [] all = IsUtf8-nil
more_utf8 (b ∷ bs) all = IsUtf8-append (44 ∷ b) (flat_map (λ c. 44 ∷ c) bs) (IsUtf8-append (44 ∷ []) b (utf8_ascii (44 ∷ []) (omega arith, tt)) all.0) (more_utf8 bs all.1)

pub joined_utf8 : (bs : List (List ℕ)) → AllByRecursion IsUtf8 bs → IsUtf8 (join bs)
joined_utf8 [] all = IsUtf8-nil
joined_utf8 (b ∷ bs) all = IsUtf8-append b (flat_map (λ c. 44 ∷ c) bs) all.0 (more_utf8 bs all.1)

pub enclosed_utf8 : (start close : ℕ) (b : List ℕ) → start < 128 → close < 128 → IsUtf8 b → IsUtf8 (start ∷ (b ++ close ∷ []))
enclosed_utf8 start close b low high u = IsUtf8-append (start ∷ []) (b ++ close ∷ []) (utf8_ascii (start ∷ []) (low, tt)) (IsUtf8-append b (close ∷ []) u (utf8_ascii (close ∷ []) (high, tt)))
