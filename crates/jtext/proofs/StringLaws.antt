-- What is read of a string is spelled so, and what is spelled so is read.
use Rattle.std.proofs.Common.{◌≡◌, ℕ, zero, suc, ◌+◌, ◌*◌, ◌<◌, ◌≤◌, ◌⊎◌, true, false, cond, ◌&&◌, ◌||◌, ◌==◌, List, [], ◌∷◌, ◌++◌, length, Option, Some, None, Ok, Err, inl, inr, refl, sym, ap, ap₂, ◌∙◌, subst, append_assoc, eqb-true, arith}
use Rattle.std.proofs.lemmas.Bool.{cases_Bool}
use Rattle.std.proofs.lemmas.Bool.Decides.{nat_tests}
use Rattle.std.proofs.lemmas.List.{length-append, append-nil}
use Rattle.std.specs.Bool.{nat_lt, nat_le}
use Rattle.std.specs.Char.{digit_value, encode_utf8}
use Rattle.std.specs.Prelude.{codes}
use Rattle.jtext.specs.declared.fault.Fault.{Fault}
use Rattle.jtext.specs.declared.fault.Fault.TheVariants.{Bad, Lone}
use Rattle.jtext.specs.Readings.{Reading, ◌>>=◌, or_fault, strip_word}
use Rattle.jtext.specs.Strings.{IsPlain, short, IsFour, IsHigh, IsLow, character_of_pair, IsEscape, Letters, done, plain, escaped, Quoted, is_plain, digit_at, any_digit_at, four_at, cut_or_lone, low_letter_at, low_digit_at, low_at, unit_at, unicode_at, short_to, escape_at, body_at, string_at}
use Rattle.jtext.specs.Grammar.{Passes}
use Rattle.jtext.proofs.Binds.{bind_ok, or_fault_ok, chosen}
use Rattle.jtext.proofs.Bodies.{body_plain}

-- ---- digits

pub record Digit (least most n : ℕ) (s t : List ℕ) : Type 0 where
  pub c : ℕ
  pub text : s ≡ c ∷ t
  pub value : n ≡ digit_value c
  pub lo : least ≤ digit_value c
  pub hi : digit_value c ≤ most

pub digit_sound : (least most : ℕ) (s t : List ℕ) (n : ℕ) → digit_at least most s ≡ Some (n, t) → Digit least most n s t
digit_sound least most [] t n e = cc
digit_sound least most (c ∷ cs) t n e =
    elim (cases_Bool (nat_le least (digit_value c) && nat_le (digit_value c) most)) [
      | inl is ↦
          let here : Some (digit_value c, cs) ≡ Some (n, t) = ap (λ b. cond b (Some (digit_value c, cs)) None) (sym is) ∙ e in
          let range : (least ≤ digit_value c) × (digit_value c ≤ most) = grind (arith, nat_tests) in
          record { c = c; text = ap (λ x. c ∷ x) (snd cs t (digit_value c) n here); value = fst cs t (digit_value c) n here; lo = range.0; hi = range.1 }
      | inr is ↦ absurd (none n t (ap (λ b. cond b (Some (digit_value c, cs)) None) (sym is) ∙ e))
    ]
  where
    fst : (u v : List ℕ) (m n : ℕ) → ◌≡◌ {A = Option (ℕ × List ℕ)} (Some (m, u)) (Some (n, v)) → n ≡ m
    fst u v m n e = let same : ◌≡◌ {A = ℕ × List ℕ} (m, u) (n, v) = cc in sym (ap (λ p. p.0) same)

    snd : (u v : List ℕ) (m n : ℕ) → ◌≡◌ {A = Option (ℕ × List ℕ)} (Some (m, u)) (Some (n, v)) → u ≡ v
    snd u v m n e = let same : ◌≡◌ {A = ℕ × List ℕ} (m, u) (n, v) = cc in ap (λ p. p.1) same

    none : (n : ℕ) (v : List ℕ) → ◌≡◌ {A = Option (ℕ × List ℕ)} None (Some (n, v)) → ⊥
    none n v e = cc

pub digit_complete : (least most c : ℕ) (cs : List ℕ) → least ≤ digit_value c → digit_value c ≤ most → digit_at least most (c ∷ cs) ≡ Some (digit_value c, cs)
digit_complete least most c cs lo hi = grind (arith, nat_tests)

any_sound : (s : List ℕ) (p : ℕ × List ℕ) → any_digit_at s ≡ Ok p → Digit 0 15 p.0 s p.1
any_sound s p e = digit_sound 0 15 s p.1 p.0 (or_fault_ok _ _ p e)

any_complete : (c : ℕ) (cs : List ℕ) → digit_value c ≤ 15 → any_digit_at (c ∷ cs) ≡ Ok (digit_value c, cs)
any_complete c cs hi = ap (or_fault (Bad (length (c ∷ cs)))) (digit_complete 0 15 c cs (omega arith) hi)

low_sound : (least most left : ℕ) (s : List ℕ) (p : ℕ × List ℕ) → low_digit_at least most left s ≡ Ok p → Digit least most p.0 s p.1
low_sound least most left s p e = digit_sound least most s p.1 p.0 (or_fault_ok _ _ p e)

low_complete : (least most left c : ℕ) (cs : List ℕ) → least ≤ digit_value c → digit_value c ≤ most → low_digit_at least most left (c ∷ cs) ≡ Ok (digit_value c, cs)
low_complete least most left c cs lo hi = ap (or_fault (cut_or_lone left (c ∷ cs))) (digit_complete least most c cs lo hi)

-- ---- four digits

pub four_sound : (s : List ℕ) (p : ℕ × List ℕ) → four_at s ≡ Ok p → Passes (IsFour p.0) s p.1
unfolding four_at
four_sound s p e =
    let (a, is_a, e1) = bind_ok (any_digit_at s) _ p e in
    let (b, is_b, e2) = bind_ok (any_digit_at a.1) _ p e1 in
    let (c, is_c, e3) = bind_ok (any_digit_at b.1) _ p e2 in
    let (d, is_d, e4) = bind_ok (any_digit_at c.1) _ p e3 in
    let da = any_sound s a is_a in
    let db = any_sound a.1 b is_b in
    let dc = any_sound b.1 c is_c in
    let dd = any_sound c.1 d is_d in
    let same : (◌≡◌ {A = ℕ} p.0 (16 * (16 * (16 * a.0 + b.0) + c.0) + d.0)) × (d.1 ≡ p.1) = parts _ p d.1 e4 in (
      da.c ∷ db.c ∷ dc.c ∷ dd.c ∷ [],
      record { p = da.c; q = db.c; r = dc.c; s = dd.c; is_p = da.hi; is_q = db.hi; is_r = dc.hi; is_s = dd.hi; number = omega (arith, same.0, da.value, db.value, dc.value, dd.value); text = refl },
      da.text ∙ ap (λ x. da.c ∷ x) (db.text ∙ ap (λ x. db.c ∷ x) (dc.text ∙ ap (λ x. dc.c ∷ x) (dd.text ∙ ap (λ x. dd.c ∷ x) same.1))),
    )
  where
    parts : (n : ℕ) (p : ℕ × List ℕ) (t : List ℕ) → ◌≡◌ {A = Reading ℕ} (Ok (n, t)) (Ok p) → (p.0 ≡ n) × (t ≡ p.1)
    parts n p t e = let same : ◌≡◌ {A = ℕ × List ℕ} (n, t) p = cc in (sym (ap (λ q. q.0) same), ap (λ q. q.1) same)

pub four_complete : (n : ℕ) (b rest : List ℕ) → IsFour n b → four_at (b ++ rest) ≡ Ok (n, rest)
unfolding four_at
four_complete n b rest is =
    rw (is.text, any_complete is.p _ is.is_p, any_complete is.q _ is.is_q, any_complete is.r _ is.is_r, any_complete is.s _ is.is_s)
    (ap (λ x. Ok (x, rest)) (sym is.number))

-- ---- surrogates

pub strip_one : (b : ℕ) (s x : List ℕ) → strip_word (b ∷ []) s ≡ Some x → s ≡ b ∷ x
strip_one b [] x e = cc
strip_one b (c ∷ cs) x e =
    elim (cases_Bool (c == b)) [
      | inl is ↦
          let same : Some cs ≡ Some x = grind (arith, nat_tests) in
          ap₂ (λ y ys. y ∷ ys) (eqb-true c b is) (inside cs x same)
      | inr is ↦ absurd (grind (arith, nat_tests))
    ]
  where
    inside : (u v : List ℕ) → ◌≡◌ {A = Option (List ℕ)} (Some u) (Some v) → u ≡ v
    inside u v e = cc

pub low_unit_sound : (left : ℕ) (s : List ℕ) (p : ℕ × List ℕ) → low_at left s ≡ Ok p → (b : List ℕ) × IsFour p.0 b × IsLow p.0 × (s ≡ 92 ∷ 117 ∷ (b ++ p.1))
unfolding low_at
low_unit_sound left s p e =
    let (x, is_x, e0) = bind_ok (low_letter_at (codes "\\") left s) _ p e in
    let (y, is_y, e1) = bind_ok (low_letter_at (codes "u") left x) _ p e0 in
    let (a, is_a, e2) = bind_ok (low_digit_at 13 13 left y) _ p e1 in
    let (b, is_b, e3) = bind_ok (low_digit_at 12 15 left a.1) _ p e2 in
    let (c, is_c, e4) = bind_ok (low_digit_at 0 15 left b.1) _ p e3 in
    let (d, is_d, e5) = bind_ok (low_digit_at 0 15 left c.1) _ p e4 in
    let da = low_sound 13 13 left y a is_a in
    let db = low_sound 12 15 left a.1 b is_b in
    let dc = low_sound 0 15 left b.1 c is_c in
    let dd = low_sound 0 15 left c.1 d is_d in
    let same : (◌≡◌ {A = ℕ} p.0 (16 * (16 * (16 * a.0 + b.0) + c.0) + d.0)) × (d.1 ≡ p.1) = parts _ p d.1 e5 in (
      da.c ∷ db.c ∷ dc.c ∷ dd.c ∷ [],
      record { p = da.c; q = db.c; r = dc.c; s = dd.c; is_p = omega (arith, da.hi); is_q = db.hi; is_r = dc.hi; is_s = dd.hi; number = omega (arith, same.0, da.value, db.value, dc.value, dd.value); text = refl },
      (
        omega (arith, same.0, da.value, db.value, dc.value, dd.value, da.lo, db.lo),
        omega (arith, same.0, da.value, db.value, dc.value, dd.value, da.hi, db.hi, dc.hi, dd.hi),
      ),
      strip_one 92 s x (or_fault_ok _ _ x is_x)
          ∙ ap (λ z. 92 ∷ z) (strip_one 117 x y (or_fault_ok _ _ y is_y)
          ∙ ap (λ z. 117 ∷ z) (da.text ∙ ap (λ z. da.c ∷ z) (db.text ∙ ap (λ z. db.c ∷ z) (dc.text ∙ ap (λ z. dc.c ∷ z) (dd.text ∙ ap (λ z. dd.c ∷ z) same.1))))),
    )
  where
    parts : (n : ℕ) (p : ℕ × List ℕ) (t : List ℕ) → ◌≡◌ {A = Reading ℕ} (Ok (n, t)) (Ok p) → (p.0 ≡ n) × (t ≡ p.1)
    parts n p t e = let same : ◌≡◌ {A = ℕ × List ℕ} (n, t) p = cc in (sym (ap (λ q. q.0) same), ap (λ q. q.1) same)

pub low_unit_complete : (left n : ℕ) (b rest : List ℕ) → IsFour n b → IsLow n → low_at left (92 ∷ 117 ∷ (b ++ rest)) ≡ Ok (n, rest)
unfolding low_at
low_unit_complete left n b rest is low =
    rw (
      is.text,
      low_complete 13 13 left is.p _ (omega (arith, is.number, is.is_p, is.is_q, is.is_r, is.is_s, low.0)) (omega (arith, is.number, low.1)),
      low_complete 12 15 left is.q _ (omega (arith, is.number, is.is_p, is.is_q, is.is_r, is.is_s, low.0, low.1)) is.is_q,
      low_complete 0 15 left is.r _ (omega arith) is.is_r,
      low_complete 0 15 left is.s _ (omega arith) is.is_s,
    )
    (ap (λ x. Ok (x, rest)) (sym is.number))

-- ---- escapes

pub pair_is : {A : Type 0} (x : A) (t : List ℕ) (p : A × List ℕ) → ◌≡◌ {A = Reading A} (Ok (x, t)) (Ok p) → (x, t) ≡ p
pair_is x t p e = cc

pub no_ok : {A : Type 0} (f : Fault) (p : A × List ℕ) → ◌≡◌ {A = Reading A} (Err f) (Ok p) → ⊥
no_ok f p e = cc

one_unit : (u : ℕ) → (nat_lt u 0xD800 || nat_le 0xE000 u) ≡ true → (u < 0xD800) ⊎ (0xE000 ≤ u)
one_unit u e = grind (arith, nat_tests)

pub two_units : (u : ℕ) → (nat_lt u 0xD800 || nat_le 0xE000 u) ≡ false → nat_le 0xDC00 u ≡ false → IsHigh u
two_units u e f = (grind (arith, nat_tests), grind (arith, nat_tests))

unicode_sound : (left : ℕ) (s : List ℕ) (p : ℕ × List ℕ) → unicode_at left s ≡ Ok p → (e : List ℕ) × IsEscape p.0 (117 ∷ e) × (s ≡ e ++ p.1)
unfolding unicode_at
unicode_sound left s p e =
    let (u, is_u, e1) = bind_ok (four_at s) _ p e in
    let (digits, four, text) = four_sound s u is_u in
    elim (chosen (nat_lt u.0 0xD800 || nat_le 0xE000 u.0) (Ok (u.0, u.1)) _ (Ok p) e1) [
      | inl h ↦
          let same = pair_is u.0 u.1 p h.1 in
          let c : u.0 ≡ p.0 = ap (λ q. q.0) same in
          (digits, subst (λ n. IsEscape n (117 ∷ digits)) c (inr (inl (digits, four, one_unit u.0 h.0, refl))), text ∙ ap (λ q. digits ++ q.1) same)
      | inr h ↦
          elim (chosen (nat_le 0xDC00 u.0) (Err (Lone left)) _ (Ok p) h.1) [
            | inl g ↦ absurd (no_ok (Lone left) p g.1)
            | inr g ↦
                let (l, is_l, e2) = bind_ok (low_at left u.1) _ p g.1 in
                let (second, is_second, is_low, after) = low_unit_sound left u.1 l is_l in
                let same = pair_is (character_of_pair u.0 l.0) l.1 p e2 in (
                  digits ++ 92 ∷ 117 ∷ second,
                  inr (inr (record { high = u.0; low = l.0; first = digits; second = second; is_first = four; is_second = is_second; is_high = two_units u.0 h.0 g.0; is_low = is_low; character = sym (ap (λ q. q.0) same); text = refl })),
                  text ∙ ap (λ x. digits ++ x) (after ∙ ap (λ q. 92 ∷ 117 ∷ (second ++ q.1)) same) ∙ simp append_assoc,
                )
          ]
    ]

short_sound : (s rest : List ℕ) (o : Option ℕ) (p : ℕ × List ℕ) → short_to s rest o ≡ Ok p → (o ≡ Some p.0) × (rest ≡ p.1)
short_sound s rest None p e = absurd (no_ok (Bad (length s)) p e)
short_sound s rest (Some c) p e = let same = pair_is c rest p e in (ap (λ q. Some q.0) same, ap (λ q. q.1) same)

pub escape_sound : (left : ℕ) (s : List ℕ) (p : ℕ × List ℕ) → escape_at left s ≡ Ok p → Passes (IsEscape p.0) s p.1
unfolding escape_at
escape_sound left [] p e = absurd (no_ok (Bad 0) p e)
escape_sound left (c ∷ cs) p e =
    elim (chosen (c == 117) (unicode_at left cs) (short_to (c ∷ cs) cs (short c)) (Ok p) e) [
      | inl h ↦ let u = unicode_sound left cs p h.1 in (117 ∷ u.0, u.1, ap₂ (λ y ys. y ∷ ys) (eqb-true c 117 h.0) u.2)
      | inr h ↦ let q = short_sound (c ∷ cs) cs (short c) p h.1 in (c ∷ [], inl (c, q.0, refl), ap (λ x. c ∷ x) q.1)
    ]

unit_complete : (left u : ℕ) (rest : List ℕ) → (u < 0xD800) ⊎ (0xE000 ≤ u) → unit_at left u rest ≡ Ok (u, rest)
unit_complete left u rest h =
    let t : (nat_lt u 0xD800 || nat_le 0xE000 u) ≡ true = grind (arith, nat_tests) in
    ap (λ b. cond b (Ok (u, rest)) (cond (nat_le 0xDC00 u) (Err (Lone left)) (low_at left rest >>= (λ p. Ok (character_of_pair u p.0, p.1))))) t

units_complete : (left u l : ℕ) (s rest : List ℕ) → IsHigh u → low_at left s ≡ Ok (l, rest) → unit_at left u s ≡ Ok (character_of_pair u l, rest)
units_complete left u l s rest h e =
    let t : (nat_lt u 0xD800 || nat_le 0xE000 u) ≡ false = grind (arith, nat_tests) in
    let r : nat_le 0xDC00 u ≡ false = grind (arith, nat_tests) in
    ap (λ b. cond b (Ok (u, s)) (cond (nat_le 0xDC00 u) (Err (Lone left)) (low_at left s >>= (λ p. Ok (character_of_pair u p.0, p.1))))) t
    ∙ ap (λ b. cond b (Err (Lone left)) (low_at left s >>= (λ p. Ok (character_of_pair u p.0, p.1)))) r ∙ ap (λ r. r >>= (λ p. Ok (character_of_pair u p.0, p.1))) e

pub escape_complete : (left c : ℕ) (e rest : List ℕ) → IsEscape c e → escape_at left (e ++ rest) ≡ Ok (c, rest)
unfolding escape_at unicode_at
escape_complete left c e rest (inl (letter, is, text)) =
    ap (λ x. escape_at left (x ++ rest)) text ∙ elim (cases_Bool (letter == 117)) [
      | inl h ↦ absurd (never letter c (eqb-true letter 117 h) is)
      | inr h ↦ ap (λ b. cond b (unicode_at left rest) (short_to (letter ∷ rest) rest (short letter))) h ∙ ap (short_to (letter ∷ rest) rest) is
    ]
  where
    never : (letter c : ℕ) → letter ≡ 117 → short letter ≡ Some c → ⊥
    never letter c e is = let n : ◌≡◌ {A = Option ℕ} None (Some c) = ap short (sym e) ∙ is in cc
escape_complete left c e rest (inr (inl (digits, four, alone, text))) =
    ap (λ x. escape_at left (x ++ rest)) text ∙ ap (λ r. r >>= (λ p. unit_at left p.0 p.1)) (four_complete c digits rest four) ∙ unit_complete left c rest alone
escape_complete left c e rest (inr (inr is)) =
    let tail = 92 ∷ 117 ∷ (is.second ++ rest) in
    let text : e ++ rest ≡ 117 ∷ (is.first ++ tail) = ap (λ x. x ++ rest) is.text ∙ ap (λ x. 117 ∷ x) (append_assoc is.first (92 ∷ 117 ∷ is.second) rest) in
    ap (escape_at left) text ∙ ap (λ r. r >>= (λ p. unit_at left p.0 p.1)) (four_complete is.high is.first tail is.is_first)
    ∙ units_complete left is.high is.low tail rest is.is_high (low_unit_complete left is.low is.second rest is.is_second is.is_low) ∙ ap (λ x. Ok (x, rest)) (sym is.character)

-- ---- strings

pub plain_of : (c : ℕ) → is_plain c ≡ true → IsPlain c
plain_of c e = (grind (arith, nat_tests), grind (arith, nat_tests), grind (arith, nat_tests))

pub of_plain : (c : ℕ) → IsPlain c → is_plain c ≡ true
of_plain c h = grind (arith, nat_tests)

body_sound : (n : ℕ) (out s : List ℕ) (p : List ℕ × List ℕ) → body_at n out s ≡ Ok p → (text : List ℕ) × (b : List ℕ) × Letters text b × (p.0 ≡ out ++ text) × (s ≡ b ++ 34 ∷ p.1)
unfolding body_at
body_sound zero out s p e = absurd (no_ok (Bad (length s)) p e)
body_sound (suc n) out [] p e = absurd (no_ok (Bad 0) p e)
body_sound (suc n) out (c ∷ cs) p e =
    elim (chosen (is_plain c) (body_at n (out ++ c ∷ []) cs) _ (Ok p) e) [
      | inl h ↦
          let (text, b, letters, t, s) = body_sound n (out ++ c ∷ []) cs p h.1 in
          (c ∷ text, c ∷ b, plain c text b (plain_of c h.0) letters, t ∙ append_assoc out (c ∷ []) text, ap (λ x. c ∷ x) s)
      | inr h ↦
          elim (chosen (c == 34) (Ok (out, cs)) _ (Ok p) h.1) [
            | inl g ↦
                let same = pair_is out cs p g.1 in
                ([], [], done, sym (ap (λ q. q.0) same) ∙ sym (append-nil out), ap₂ (λ y ys. y ∷ ys) (eqb-true c 34 g.0) (ap (λ q. q.1) same))
            | inr g ↦
                elim (chosen (c == 92) (escape_at (suc (length cs)) cs >>= (λ q. body_at n (out ++ encode_utf8 q.0) q.1)) (Err (Bad (suc (length cs)))) (Ok p) g.1) [
                  | inl f ↦
                      let (q, is_q, e1) = bind_ok (escape_at (suc (length cs)) cs) _ p f.1 in
                      let (front, is_front, at) = escape_sound (suc (length cs)) cs q is_q in
                      let (text, b, letters, t, s) = body_sound n (out ++ encode_utf8 q.0) q.1 p e1 in (
                        encode_utf8 q.0 ++ text,
                        92 ∷ (front ++ b),
                        escaped q.0 front (encode_utf8 q.0 ++ text) text (92 ∷ (front ++ b)) b is_front letters refl refl,
                        t ∙ append_assoc out (encode_utf8 q.0) text,
                        ap₂ (λ y ys. y ∷ ys) (eqb-true c 92 f.0) (at ∙ ap (λ x. front ++ x) s ∙ sym (append_assoc front b (34 ∷ p.1))),
                      )
                  | inr f ↦ absurd (no_ok (Bad (suc (length cs))) p f.1)
                ]
          ]
    ]

pub string_sound : (s : List ℕ) (p : List ℕ × List ℕ) → string_at s ≡ Ok p → Passes (Quoted p.0) s p.1
unfolding string_at
string_sound [] p e = absurd (no_ok (Bad 0) p e)
string_sound (c ∷ cs) p e =
    elim (chosen (c == 34) (body_at (suc (length cs)) [] cs) (Err (Bad (suc (length cs)))) (Ok p) e) [
      | inl h ↦
          let (text, b, letters, t, s) = body_sound (suc (length cs)) [] cs p h.1 in
          (34 ∷ (b ++ 34 ∷ []), (b, subst (λ x. Letters x b) (sym t) letters, refl), ap₂ (λ y ys. y ∷ ys) (eqb-true c 34 h.0) (s ∙ sym (append_assoc b (34 ∷ []) p.1)))
      | inr h ↦ absurd (no_ok (Bad (suc (length cs))) p h.1)
    ]

pub at_quote : (m : ℕ) (out rest : List ℕ) → body_at (suc m) out (34 ∷ rest) ≡ Ok (out, rest)
unfolding body_at
at_quote m out rest = refl

pub at_backslash : (m : ℕ) (out s : List ℕ) → body_at (suc m) out (92 ∷ s) ≡ (escape_at (suc (length s)) s >>= (λ q. body_at m (out ++ encode_utf8 q.0) q.1))
unfolding body_at
at_backslash m out s = refl

body_complete : (text b : List ℕ) → Letters text b → (n : ℕ) (out rest : List ℕ) → length (b ++ 34 ∷ rest) < n → body_at n out (b ++ 34 ∷ rest) ≡ Ok (out ++ text, rest)
body_complete _ _ letters zero out rest h = absurd (omega arith)
body_complete _ _ done (suc n) out rest h = at_quote n out rest ∙ ap (λ x. Ok (x, rest)) (sym (append-nil out))
body_complete _ _ (plain c text b is more) (suc n) out rest h =
    body_plain n out c (b ++ 34 ∷ rest) (of_plain c is) ∙ body_complete text b more n (out ++ c ∷ []) rest (omega (arith, h)) ∙ ap (λ x. Ok (x, rest)) (append_assoc out (c ∷ []) text)
body_complete _ _ (escaped c e text more b tail is letters t u) (suc n) out rest h =
    let s = tail ++ 34 ∷ rest in
    let whole : b ++ 34 ∷ rest ≡ 92 ∷ (e ++ s) = ap (λ x. x ++ 34 ∷ rest) u ∙ ap (λ x. 92 ∷ x) (append_assoc e tail (34 ∷ rest)) in
    let len : length (b ++ 34 ∷ rest) ≡ suc (length e + length s) = ap length whole ∙ ap suc (length-append e s) in
    ap (body_at (suc n) out) whole ∙ at_backslash n out (e ++ s) ∙ ap (λ r. r >>= (λ q. body_at n (out ++ encode_utf8 q.0) q.1)) (escape_complete (suc (length (e ++ s))) c e s is)
    ∙ body_complete more tail letters n (out ++ encode_utf8 c) rest (omega (arith, h, len)) ∙ ap (λ x. Ok (x, rest)) (append_assoc out (encode_utf8 c) more ∙ ap (λ x. out ++ x) (sym t))

pub at_opening : (s : List ℕ) → string_at (34 ∷ s) ≡ body_at (suc (length s)) [] s
unfolding string_at
at_opening s = refl

pub string_complete : (text b rest : List ℕ) → Quoted text b → string_at (b ++ rest) ≡ Ok (text, rest)
string_complete text b rest (inner, letters, e) =
    ap (λ x. string_at (x ++ rest)) e ∙ ap (λ x. string_at (34 ∷ x)) (append_assoc inner (34 ∷ []) rest) ∙ at_opening (inner ++ 34 ∷ rest)
    ∙ body_complete text inner letters (suc (length (inner ++ 34 ∷ rest))) [] rest (omega arith)
