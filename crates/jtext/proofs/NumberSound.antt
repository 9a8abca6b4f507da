-- What is read of a number is one.
use Rattle.std.proofs.Common.{◌≡◌, ℕ, ◌≤◌, ◌⊎◌, true, false, cond, ◌==◌, ◌||◌, List, [], ◌∷◌, ◌++◌, length, Some, None, inl, inr, refl, sym, ap, ◌∙◌, subst, append_assoc, arith}
use Rattle.std.proofs.lemmas.Bool.Decides.{nat_tests}
use Rattle.std.proofs.lemmas.List.{append-nil}
use Rattle.std.specs.Char.{is_ascii_digit}
use Rattle.jtext.specs.Grammar.{Passes}
use Rattle.jtext.specs.Number.{IsDigit, AreAllDigits, AreDigits, IsMinus, IsWhole, IsSign, IsFraction, IsExponent, IsNumber}
use Rattle.jtext.specs.Reading.{skip_digits, after_digits, after_minus, after_sign, after_whole, after_fraction, after_exponent, after_number}
use Rattle.jtext.proofs.Binds.{chosen, test, and_then_some, some_is, no_some}
use Rattle.jtext.proofs.NumberRuns.{number_ends}
use Rattle.jtext.proofs.Numbers.{digits_of, whole_of, number_of}
use Rattle.std.proofs.lemmas.Bool.{eqb-true}

pub digit_of : (c : ℕ) → is_ascii_digit c ≡ true → IsDigit c
digit_of c e = grind (arith, nat_tests)

all_sound : (s : List ℕ) → Passes AreAllDigits s (skip_digits s)
all_sound [] = ([], tt, refl)
all_sound (c ∷ cs) =
    test (λ b. Passes AreAllDigits (c ∷ cs) (cond b (skip_digits cs) (c ∷ cs))) (is_ascii_digit c)
    (λ e. let p = all_sound cs in (c ∷ p.0, (digit_of c e, p.1), ap (λ x. c ∷ x) p.2))
    (λ e. ([], tt, refl))

all_to : (s t : List ℕ) → Some (skip_digits s) ≡ Some t → Passes AreAllDigits s t
all_to s t e = subst (Passes AreAllDigits s) (some_is (skip_digits s) t e) (all_sound s)

digits_sound : (s t : List ℕ) → after_digits s ≡ Some t → Passes AreDigits s t
digits_sound [] t e = absurd (no_some t e)
digits_sound (c ∷ cs) t e =
    elim (chosen (is_ascii_digit c) (Some (skip_digits cs)) None (Some t) e) [
      | inl h ↦ digits_of (c ∷ cs) cs t c refl (digit_of c h.0) (all_to cs t h.1)
      | inr h ↦ absurd (no_some t h.1)
    ]

minus_sound : (s : List ℕ) → Passes IsMinus s (after_minus s)
minus_sound [] = ([], inl refl, refl)
minus_sound (c ∷ cs) =
    test (λ b. Passes IsMinus (c ∷ cs) (cond b cs (c ∷ cs))) (c == 45)
    (λ e. (45 ∷ [], inr refl, ap (λ x. x ∷ cs) (eqb-true c 45 e)))
    (λ e. ([], inl refl, refl))

sign_sound : (s : List ℕ) → Passes IsSign s (after_sign s)
sign_sound [] = ([], inl refl, refl)
sign_sound (c ∷ cs) =
    test (λ b. Passes IsSign (c ∷ cs) (cond b cs (c ∷ cs))) ((c == 45) || (c == 43))
    (λ e. (c ∷ [], is_sign c e, refl))
    (λ e. ([], inl refl, refl))
  where
    is_sign : (c : ℕ) → ((c == 45) || (c == 43)) ≡ true → IsSign (c ∷ [])
    is_sign c e =
        let which : (c ≡ 43) ⊎ (c ≡ 45) = grind (arith, nat_tests) in
        elim which [ inl h ↦ inr (inl (ap (λ x. x ∷ []) h)) | inr h ↦ inr (inr (ap (λ x. x ∷ []) h)) ]

whole_sound : (s t : List ℕ) → after_whole s ≡ Some t → Passes IsWhole s t
whole_sound [] t e = absurd (no_some t e)
whole_sound (c ∷ cs) t e =
    elim (chosen (c == 48) (Some cs) _ (Some t) e) [
      | inl h ↦ (48 ∷ [], inl refl, ap (λ x. x ∷ cs) (eqb-true c 48 h.0) ∙ ap (λ x. 48 ∷ x) (some_is cs t h.1))
      | inr h ↦
          elim (chosen (is_ascii_digit c) (Some (skip_digits cs)) None (Some t) h.1) [
            | inl g ↦ whole_of (c ∷ cs) cs t c refl (above c h.0 g.0) (digit_of c g.0).1 (all_to cs t g.1)
            | inr g ↦ absurd (no_some t g.1)
          ]
    ]
  where
    above : (c : ℕ) → (c == 48) ≡ false → is_ascii_digit c ≡ true → 49 ≤ c
    above c e d = grind (arith, nat_tests)

fraction_sound : (s t : List ℕ) → after_fraction s ≡ Some t → Passes IsFraction s t
fraction_sound [] t e = ([], inl refl, some_is [] t e)
fraction_sound (c ∷ cs) t e =
    elim (chosen (c == 46) (after_digits cs) (Some (c ∷ cs)) (Some t) e) [
      | inl h ↦
          let p = digits_sound cs t h.1 in
          (46 ∷ p.0, inr (p.0, p.1, refl), ap (λ x. x ∷ cs) (eqb-true c 46 h.0) ∙ ap (λ x. 46 ∷ x) p.2)
      | inr h ↦ ([], inl refl, some_is (c ∷ cs) t h.1)
    ]

exponent_sound : (s t : List ℕ) → after_exponent s ≡ Some t → Passes IsExponent s t
exponent_sound [] t e = ([], inl refl, some_is [] t e)
exponent_sound (c ∷ cs) t e =
    elim (chosen ((c == 101) || (c == 69)) (after_digits (after_sign cs)) (Some (c ∷ cs)) (Some t) e) [
      | inl h ↦
          let sign = sign_sound cs in
          let p = digits_sound (after_sign cs) t h.1 in
          (c ∷ (sign.0 ++ p.0), inr (c, sign.0, p.0, letter c h.0, sign.1, p.1, refl), ap (λ x. c ∷ x) (sign.2 ∙ ap (λ x. sign.0 ++ x) p.2 ∙ simp append_assoc))
      | inr h ↦ ([], inl refl, some_is (c ∷ cs) t h.1)
    ]
  where
    letter : (c : ℕ) → ((c == 101) || (c == 69)) ≡ true → (c ≡ 69) ⊎ (c ≡ 101)
    letter c e = grind (arith, nat_tests)

pub number_sound : (s t : List ℕ) → after_number s ≡ Some t → Passes IsNumber s t
number_sound s t e =
    let (v, is_v, e1) = and_then_some after_exponent _ t e in
    let (u, is_u, e2) = and_then_some after_fraction _ v is_v in
    number_of s (after_minus s) u v t (minus_sound s) (whole_sound (after_minus s) u is_u) (fraction_sound u v e2) (exponent_sound v t e1)

whole_text : (s : List ℕ) → IsNumber s → after_number s ≡ Some []
whole_text s is = ap after_number (sym (append-nil s)) ∙ number_ends s [] is tt

-- where no number comes first, the text is none
pub not_number : (s : List ℕ) → IsNumber s → after_number s ≡ None → ⊥
not_number s is e = no_some [] (sym e ∙ whole_text s is)

-- where something comes after it, neither
pub more_than_number : (s rest : List ℕ) → IsNumber s → after_number s ≡ Some rest → false ≡ (length rest == 0) → ⊥
more_than_number s rest is e more = let t : rest ≡ [] = some_is rest [] (sym e ∙ whole_text s is) in not_empty (more ∙ ap (λ l. length l == 0) t)
  where
    not_empty : false ≡ true → ⊥
    not_empty e = cc
