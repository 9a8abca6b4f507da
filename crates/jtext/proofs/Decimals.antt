-- The decimal text of a number is a number of JSON (RFC 8259, section 6).
use Rattle.std.proofs.Common.{◌≡◌, ◌⊎◌, ℕ, zero, suc, ◌+◌, ◌<◌, ◌≤◌, ◌^◌, ◌/◌, ◌%◌, List, [], ◌∷◌, ◌++◌, inl, inr, refl, ap, sym, arith}
use Rattle.std.proofs.lemmas.Fmt.{decimal_by_steps}
use Rattle.std.proofs.lemmas.List.{append-nil}
use Rattle.std.specs.Fmt.{decimal}
use Rattle.jtext.specs.Number.{IsDigit, AreAllDigits, IsWhole, IsNumber}

add_digit : (ds : List ℕ) (d : ℕ) → AreAllDigits ds → IsDigit d → AreAllDigits (ds ++ d ∷ [])
add_digit [] d all digit = (digit, tt)
add_digit (c ∷ cs) d all digit = (all.0, add_digit cs d all.1 digit)

-- the text of a number above 0 begins with another digit
abbrev IsTextOf : ℕ → List ℕ → Type 0
IsTextOf n text = ((n ≡ 0) × (text ≡ 48 ∷ [])) ⊎ ((0 < n) × ((d : ℕ) × (ds : List ℕ) × (49 ≤ d) × (d ≤ 57) × AreAllDigits ds × (text ≡ d ∷ ds)))

one : (n : ℕ) → n < 10 → IsTextOf n ((48 + n) ∷ [])
one zero small = inl (refl, refl)
one (suc n) small = inr (omega arith, (48 + suc n, [], omega arith, omega arith, tt, refl))

more : (n : ℕ) (text : List ℕ) → 10 ≤ n → IsTextOf (n / 10) text → IsTextOf n (text ++ ((48 + n % 10) ∷ []))
more n text large (inl p) = absurd (omega (arith, p.0))
more n text large (inr (some, (d, ds, least, most, all, e))) =
    inr (omega arith, (d, ds ++ ((48 + n % 10) ∷ []), least, most, add_digit ds (48 + n % 10) all (omega arith, omega arith), ap (λ x. x ++ ((48 + n % 10) ∷ [])) e))

whole : (n : ℕ) (text : List ℕ) → IsTextOf n text → IsWhole text
whole n text (inl p) = inl p.1
whole n text (inr p) = inr p.1

pub decimal_is_number : (n : ℕ) → n < 2 ^ 64 → IsNumber (decimal n)
decimal_is_number n small = record {
  minus = [];
  whole = decimal n;
  fraction = [];
  exponent = [];
  is_minus = inl refl;
  is_whole = whole n (decimal n) (decimal_by_steps IsTextOf one more n small);
  is_fraction = inl refl;
  is_exponent = inl refl;
  text = sym (append-nil (decimal n));
}
