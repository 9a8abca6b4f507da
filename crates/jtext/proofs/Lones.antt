-- Where a string is refused for a lone surrogate, and only there.
use Rattle.std.proofs.Common.{◌≡◌, ℕ, zero, suc, ◌+◌, ◌<◌, ◌⊎◌, Bool, true, false, ◌||◌, ◌==◌, List, [], ◌∷◌, ◌++◌, length, Option, Some, None, Result, Ok, Err, inl, inr, refl, sym, ap, ◌∙◌, subst, append_assoc, eqb-true, arith}
use Rattle.std.proofs.lemmas.Bool.{cases_Bool}
use Rattle.std.proofs.lemmas.Bool.Decides.{nat_tests}
use Rattle.std.proofs.lemmas.List.{length-append}
use Rattle.std.specs.Bool.{nat_lt, nat_le}
use Rattle.std.specs.Char.{digit_value, encode_utf8}
use Rattle.jtext.specs.declared.fault.Fault.{Fault}
use Rattle.jtext.specs.declared.fault.Fault.TheVariants.{NoMemory, Bad, Deep, Repeated, Lone}
use Rattle.jtext.specs.Readings.{Reading, ◌>>=◌, or_fault, strip_word}
use Rattle.jtext.specs.Strings.{IsFour, IsHigh, IsLow, IsEscape, Letters, done, plain, escaped, short, is_plain, digit_at, any_digit_at, four_at, low_letter_at, low_digit_at, low_at, unit_at, unicode_at, short_to, escape_at, body_at, string_at}
use Rattle.jtext.specs.Refusal as refusal
use Rattle.jtext.specs.Refusal.{fits, is_within, low_escape, IsLone}
use Rattle.jtext.specs.Grammar.{Passes}
use Rattle.jtext.proofs.Binds.{chosen}
use Rattle.jtext.proofs.Bodies.{body_plain}
use Rattle.jtext.proofs.StringLaws.{four_sound, four_complete, escape_sound, escape_complete, plain_of, of_plain, at_backslash, at_opening, two_units}

-- ---- the escape of a low surrogate

-- r is refused as lone exactly where the bytes do not fit
abbrev Agrees : {A : Type 0} → ℕ → Bool → Result A Fault → Type 0
Agrees left fit (Ok p) = fit ≡ true
Agrees left fit (Err NoMemory) = ⊥
Agrees left fit (Err (Bad n)) = fit ≡ true
Agrees left fit (Err (Deep n)) = ⊥
Agrees left fit (Err (Repeated n)) = ⊥
Agrees left fit (Err (Lone n)) = (fit ≡ false) × (n ≡ left)

letter_agrees : {B : Type 0} (left b : ℕ) (tests : List (ℕ → Bool)) (s : List ℕ) (f : List ℕ → Result B Fault) → ((rest : List ℕ) → Agrees left (fits tests rest) (f rest))
    → Agrees left (fits ((λ c. c == b) ∷ tests) s) (low_letter_at (b ∷ []) left s >>= f)
letter_agrees left b tests [] f later = refl
letter_agrees {B} left b tests (c ∷ cs) f later =
    elim (cases_Bool (c == b)) [
      | inl t ↦
          let read : strip_word (b ∷ []) (c ∷ cs) ≡ Some cs = grind (arith, nat_tests) in
          rw (t, read) (later cs)
      | inr t ↦
          let read : strip_word (b ∷ []) (c ∷ cs) ≡ None = grind (arith, nat_tests) in
          rw (t, read) (refl, refl)
    ]

digit_agrees : {B : Type 0} (left least most : ℕ) (tests : List (ℕ → Bool)) (s : List ℕ) (f : ℕ × List ℕ → Result B Fault) → ((p : ℕ × List ℕ) → Agrees left (fits tests p.1) (f p))
    → Agrees left (fits (is_within least most ∷ tests) s) (low_digit_at least most left s >>= f)
digit_agrees left least most tests [] f later = refl
digit_agrees left least most tests (c ∷ cs) f later =
    elim (cases_Bool (is_within least most c)) [
      | inl t ↦ rw t (later (digit_value c, cs))
      | inr t ↦ rw t (refl, refl)
    ]

low_agrees : (left : ℕ) (s : List ℕ) → Agrees left (fits low_escape s) (low_at left s)
unfolding low_at
low_agrees left s =
    let t1 = is_within 0 15 ∷ [] in
    let t2 = is_within 0 15 ∷ t1 in
    let t3 = is_within 12 15 ∷ t2 in
    let t4 = is_within 13 13 ∷ t3 in
    letter_agrees left 92 ((λ c. c == 117) ∷ t4) s _ (λ x. letter_agrees left 117 t4 x _ (λ y. digit_agrees left 13 13 t3 y _ (λ a. digit_agrees left 12 15 t2 a.1 _ (λ b. digit_agrees left 0 15 t1 b.1 _ (λ c. digit_agrees left 0 15 [] c.1 _ (λ d. refl))))))

-- ---- escapes

-- what a refusal after a backslash says
abbrev EscapeFault : ℕ → List ℕ → Fault → Type 0
EscapeFault left s NoMemory = ⊥
EscapeFault left s (Bad n) = Unit {0}
EscapeFault left s (Deep n) = ⊥
EscapeFault left s (Repeated n) = ⊥
EscapeFault left s (Lone n) = (n ≡ left) × IsLone (92 ∷ s)

any_fault : (s : List ℕ) (f : Fault) → any_digit_at s ≡ Err f → (n : ℕ) × (f ≡ Bad n)
any_fault s f e = go (digit_at 0 15 s) e
  where
    go : (o : Option (ℕ × List ℕ)) → or_fault (Bad (length s)) o ≡ Err f → (n : ℕ) × (f ≡ Bad n)
    go (Some p) e = cc
    go None e = let same : ◌≡◌ {A = Fault} (Bad (length s)) f = cc in (length s, sym same)

-- a refusal of two steps is one of either
pub bind_err : {A B : Type 0} (r : Result A Fault) (f : A → Result B Fault) (g : Fault) → r >>= f ≡ Err g → (r ≡ Err g) ⊎ ((x : A) × (r ≡ Ok x) × (f x ≡ Err g))
bind_err (Ok x) f g e = inr (x, refl, e)
bind_err {A} {B} (Err h) f g e = inl (ap Err (inside h g e))
  where
    inside : (h g : Fault) → ◌≡◌ {A = Result B Fault} (Err h) (Err g) → h ≡ g
    inside h g e = cc

pub no_err : {A : Type 0} (x : A) (g : Fault) → ◌≡◌ {A = Result A Fault} (Ok x) (Err g) → ⊥
no_err x g e = cc

pub fault_is : {A : Type 0} (f g : Fault) → ◌≡◌ {A = Result A Fault} (Err f) (Err g) → f ≡ g
fault_is f g e = cc

four_fault : (s : List ℕ) (f : Fault) → four_at s ≡ Err f → (n : ℕ) × (f ≡ Bad n)
unfolding four_at
four_fault s f e =
    elim (bind_err (any_digit_at s) _ f e) [
      | inl h ↦ any_fault s f h
      | inr (a, is_a, e1) ↦ elim (bind_err (any_digit_at a.1) _ f e1) [
        | inl h ↦ any_fault a.1 f h
        | inr (b, is_b, e2) ↦ elim (bind_err (any_digit_at b.1) _ f e2) [
          | inl h ↦ any_fault b.1 f h
          | inr (c, is_c, e3) ↦ elim (bind_err (any_digit_at c.1) _ f e3) [
            | inl h ↦ any_fault c.1 f h
            | inr (d, is_d, e4) ↦ absurd (no_err _ f e4)
          ]
        ]
      ]
    ]

low_fault : (left : ℕ) (u : ℕ) (digits more : List ℕ) (f : Fault) (r : Reading ℕ) → IsFour u digits → IsHigh u → Agrees left (fits low_escape more) r → r ≡ Err f → EscapeFault left (117 ∷ (digits ++ more)) f
low_fault left u digits more f (Ok p) four high agrees e = absurd (no_err p f e)
low_fault left u digits more f (Err g) four high agrees e = subst (EscapeFault left (117 ∷ (digits ++ more))) (fault_is {A = ℕ × List ℕ} g f e) (go g agrees)
  where
    go : (g : Fault) → Agrees {A = ℕ × List ℕ} left (fits low_escape more) (Err g) → EscapeFault left (117 ∷ (digits ++ more)) g
    go NoMemory a = a
    go (Bad n) a = tt
    go (Deep n) a = a
    go (Repeated n) a = a
    go (Lone n) a = (a.1, refusal.high u digits more _ four high a.0 refl)

alone_low : (u : ℕ) → (nat_lt u 0xD800 || nat_le 0xE000 u) ≡ false → nat_le 0xDC00 u ≡ true → IsLow u
alone_low u e f = (grind (arith, nat_tests), grind (arith, nat_tests))

unit_fault : (left u : ℕ) (digits more : List ℕ) (f : Fault) → IsFour u digits → unit_at left u more ≡ Err f → EscapeFault left (117 ∷ (digits ++ more)) f
unit_fault left u digits more f four e =
    elim (chosen (nat_lt u 0xD800 || nat_le 0xE000 u) (Ok (u, more)) _ (Err f) e) [
      | inl h ↦ absurd (no_err _ f h.1)
      | inr h ↦
          elim (chosen (nat_le 0xDC00 u) (Err (Lone left)) _ (Err f) h.1) [
            | inl g ↦ subst (EscapeFault left (117 ∷ (digits ++ more))) (fault_is {A = ℕ × List ℕ} (Lone left) f g.1) (refl, refusal.low u digits more _ four (alone_low u h.0 g.0) refl)
            | inr g ↦
                elim (bind_err (low_at left more) _ f g.1) [
                  | inl i ↦ low_fault left u digits more f (low_at left more) four (two_units u h.0 g.0) (low_agrees left more) i
                  | inr (p, is, i) ↦ absurd (no_err _ f i)
                ]
          ]
    ]

unicode_fault : (left : ℕ) (s : List ℕ) (f : Fault) → unicode_at left s ≡ Err f → EscapeFault left (117 ∷ s) f
unfolding unicode_at
unicode_fault left s f e =
    elim (bind_err (four_at s) _ f e) [
      | inl h ↦ let (n, is) = four_fault s f h in subst (EscapeFault left (117 ∷ s)) (sym is) tt
      | inr (u, is, e1) ↦
          let (digits, four, text) = four_sound s u is in
          subst (λ x. EscapeFault left (117 ∷ x) f) (sym text) (unit_fault left u.0 digits u.1 f four e1)
    ]

short_fault : (left : ℕ) (s cs : List ℕ) (o : Option ℕ) (f : Fault) → short_to s cs o ≡ Err f → EscapeFault left s f
short_fault left s cs (Some c) f e = absurd (no_err _ f e)
short_fault left s cs None f e = subst (EscapeFault left s) (fault_is {A = ℕ × List ℕ} (Bad (length s)) f e) tt

escape_fault : (left : ℕ) (s : List ℕ) (f : Fault) → escape_at left s ≡ Err f → EscapeFault left s f
unfolding escape_at
escape_fault left [] f e = subst (EscapeFault left []) (fault_is {A = ℕ × List ℕ} (Bad 0) f e) tt
escape_fault left (c ∷ cs) f e =
    elim (chosen (c == 117) (unicode_at left cs) (short_to (c ∷ cs) cs (short c)) (Err f) e) [
      | inl h ↦ subst (λ x. EscapeFault left (x ∷ cs) f) (sym (eqb-true c 117 h.0)) (unicode_fault left cs f h.1)
      | inr h ↦ short_fault left (c ∷ cs) cs (short c) f h.1
    ]

-- ---- strings

-- what a refusal of letters says: a lone surrogate stands after letters
pub record AfterLetters (s : List ℕ) (n : ℕ) : Type 0 where
  pub text : List ℕ
  pub inner : List ℕ
  pub rest : List ℕ
  pub letters : Letters text inner
  pub split : s ≡ inner ++ rest
  pub here : length rest ≡ n
  pub alone : IsLone rest

abbrev pub BodyFault : List ℕ → Fault → Type 0
BodyFault s NoMemory = ⊥
BodyFault s (Bad n) = Unit {0}
BodyFault s (Deep n) = ⊥
BodyFault s (Repeated n) = ⊥
BodyFault s (Lone n) = AfterLetters s n

body_plainly : (c : ℕ) (cs : List ℕ) (f : Fault) → is_plain c ≡ true → BodyFault cs f → BodyFault (c ∷ cs) f
body_plainly c cs NoMemory is h = h
body_plainly c cs (Bad n) is h = tt
body_plainly c cs (Deep n) is h = h
body_plainly c cs (Repeated n) is h = h
body_plainly c cs (Lone n) is h = record { text = c ∷ h.text; inner = c ∷ h.inner; rest = h.rest; letters = plain c h.text h.inner (plain_of c is) h.letters; split = ap (λ x. c ∷ x) h.split; here = h.here; alone = h.alone }

body_after : (p : ℕ × List ℕ) (cs : List ℕ) (f : Fault) → Passes (IsEscape p.0) cs p.1 → BodyFault p.1 f → BodyFault (92 ∷ cs) f
body_after p cs NoMemory e h = h
body_after p cs (Bad n) e h = tt
body_after p cs (Deep n) e h = h
body_after p cs (Repeated n) e h = h
body_after p cs (Lone n) (front, is, split) h =
    record {
      text = encode_utf8 p.0 ++ h.text;
      inner = 92 ∷ (front ++ h.inner);
      rest = h.rest;
      letters = escaped p.0 front (encode_utf8 p.0 ++ h.text) h.text (92 ∷ (front ++ h.inner)) h.inner is h.letters refl refl;
      split = ap (λ x. 92 ∷ x) (split ∙ ap (λ x. front ++ x) h.split ∙ sym (append_assoc front h.inner h.rest));
      here = h.here;
      alone = h.alone;
    }

at_escape : (cs : List ℕ) (f : Fault) → EscapeFault (suc (length cs)) cs f → BodyFault (92 ∷ cs) f
at_escape cs NoMemory h = h
at_escape cs (Bad n) h = tt
at_escape cs (Deep n) h = h
at_escape cs (Repeated n) h = h
at_escape cs (Lone n) h = record { text = []; inner = []; rest = 92 ∷ cs; letters = done; split = refl; here = sym h.0; alone = h.1 }

body_fault : (n : ℕ) (out s : List ℕ) (f : Fault) → length s < n → body_at n out s ≡ Err f → BodyFault s f
unfolding body_at
body_fault zero out s f room e = absurd (omega arith)
body_fault (suc n) out [] f room e = subst (BodyFault []) (fault_is {A = List ℕ × List ℕ} (Bad 0) f e) tt
body_fault (suc n) out (c ∷ cs) f room e =
    elim (chosen (is_plain c) (body_at n (out ++ c ∷ []) cs) _ (Err f) e) [
      | inl h ↦ body_plainly c cs f h.0 (body_fault n (out ++ c ∷ []) cs f (omega arith) h.1)
      | inr h ↦
          elim (chosen (c == 34) (Ok (out, cs)) _ (Err f) h.1) [
            | inl g ↦ absurd (no_err _ f g.1)
            | inr g ↦
                elim (chosen (c == 92) (escape_at (suc (length cs)) cs >>= (λ q. body_at n (out ++ encode_utf8 q.0) q.1)) (Err (Bad (suc (length cs)))) (Err f) g.1) [
                  | inl i ↦
                      subst (λ x. BodyFault (x ∷ cs) f) (sym (eqb-true c 92 i.0))
                      (elim (bind_err (escape_at (suc (length cs)) cs) _ f i.1) [
                        | inl j ↦ at_escape cs f (escape_fault (suc (length cs)) cs f j)
                        | inr (q, is_q, j) ↦
                            let (front, is, split) = escape_sound (suc (length cs)) cs q is_q in
                            body_after q cs f (front, is, split) (body_fault n (out ++ encode_utf8 q.0) q.1 f (omega (arith, room, ap length split, length-append front q.1)) j)
                      ])
                  | inr i ↦ subst (BodyFault (c ∷ cs)) (fault_is {A = List ℕ × List ℕ} (Bad (suc (length cs))) f i.1) tt
                ]
          ]
    ]

-- what a refusal of a string says
pub record InString (s : List ℕ) (n : ℕ) : Type 0 where
  pub more : List ℕ
  pub opens : s ≡ 34 ∷ more
  pub inside : AfterLetters more n

abbrev pub StringFault : List ℕ → Fault → Type 0
StringFault s NoMemory = ⊥
StringFault s (Bad n) = Unit {0}
StringFault s (Deep n) = ⊥
StringFault s (Repeated n) = ⊥
StringFault s (Lone n) = InString s n

string_of_body : (cs : List ℕ) (f : Fault) → BodyFault cs f → StringFault (34 ∷ cs) f
string_of_body cs NoMemory h = h
string_of_body cs (Bad n) h = tt
string_of_body cs (Deep n) h = h
string_of_body cs (Repeated n) h = h
string_of_body cs (Lone n) h = record { more = cs; opens = refl; inside = h }

pub string_fault : (s : List ℕ) (f : Fault) → string_at s ≡ Err f → StringFault s f
unfolding string_at
string_fault [] f e = subst (StringFault []) (fault_is {A = List ℕ × List ℕ} (Bad 0) f e) tt
string_fault (c ∷ cs) f e =
    elim (chosen (c == 34) (body_at (suc (length cs)) [] cs) (Err (Bad (suc (length cs)))) (Err f) e) [
      | inl h ↦ subst (λ x. StringFault (x ∷ cs) f) (sym (eqb-true c 34 h.0)) (string_of_body cs f (body_fault (suc (length cs)) [] cs f (omega arith) h.1))
      | inr h ↦ subst (StringFault (c ∷ cs)) (fault_is {A = List ℕ × List ℕ} (Bad (suc (length cs))) f h.1) tt
    ]

-- ---- a lone surrogate is refused

low_refused : (left : ℕ) (s : List ℕ) (r : Reading ℕ) → r ≡ low_at left s → Agrees left (fits low_escape s) r → fits low_escape s ≡ false → low_at left s ≡ Err (Lone left)
low_refused left s (Ok p) is agrees misfit = absurd (both (fits low_escape s) agrees misfit)
  where
    both : (b : Bool) → b ≡ true → b ≡ false → ⊥
    both b p q = let h : true ≡ false = sym p ∙ q in cc
low_refused left s (Err NoMemory) is agrees misfit = absurd agrees
low_refused left s (Err (Bad n)) is agrees misfit = absurd (both (fits low_escape s) agrees misfit)
  where
    both : (b : Bool) → b ≡ true → b ≡ false → ⊥
    both b p q = let h : true ≡ false = sym p ∙ q in cc
low_refused left s (Err (Deep n)) is agrees misfit = absurd agrees
low_refused left s (Err (Repeated n)) is agrees misfit = absurd agrees
low_refused left s (Err (Lone n)) is agrees misfit = sym is ∙ ap (λ k. Err (Lone k)) agrees.1

not_single : (u : ℕ) → IsHigh u → (nat_lt u 0xD800 || nat_le 0xE000 u) ≡ false
not_single u h = grind (arith, nat_tests)

not_low : (u : ℕ) → IsHigh u → nat_le 0xDC00 u ≡ false
not_low u h = grind (arith, nat_tests)

low_single : (u : ℕ) → IsLow u → (nat_lt u 0xD800 || nat_le 0xE000 u) ≡ false
low_single u h = grind (arith, nat_tests)

is_low : (u : ℕ) → IsLow u → nat_le 0xDC00 u ≡ true
is_low u h = grind (arith, nat_tests)

unicode_alone : (left n : ℕ) (digits more : List ℕ) → IsFour n digits → unit_at left n more ≡ Err (Lone left) → escape_at left (117 ∷ (digits ++ more)) ≡ Err (Lone left)
unfolding escape_at unicode_at
unicode_alone left n digits more four e = ap (λ r. r >>= (λ p. unit_at left p.0 p.1)) (four_complete n digits more four) ∙ e

escape_alone : (left : ℕ) (b : List ℕ) → IsLone b → (s : List ℕ) × (b ≡ 92 ∷ s) × (escape_at left s ≡ Err (Lone left))
escape_alone left b (refusal.low n digits more _ four low e) =
    let single : unit_at left n more ≡ Err (Lone left) = rw (low_single n low, is_low n low) refl in
    (117 ∷ (digits ++ more), e, unicode_alone left n digits more four single)
escape_alone left b (refusal.high n digits more _ four high misfit e) =
    let low = low_refused left more (low_at left more) refl (low_agrees left more) misfit in
    let single : unit_at left n more ≡ Err (Lone left) = rw (not_single n high, not_low n high, low) refl in
    (117 ∷ (digits ++ more), e, unicode_alone left n digits more four single)

body_alone : (text inner : List ℕ) → Letters text inner → (rest : List ℕ) → IsLone rest → (n : ℕ) (out : List ℕ) → length (inner ++ rest) < n → body_at n out (inner ++ rest) ≡ Err (Lone (length rest))
body_alone _ _ letters rest is zero out h = absurd (omega arith)
body_alone _ _ done rest is (suc n) out h =
    let (s, e, fails) = escape_alone (length rest) rest is in
    let len : length rest ≡ suc (length s) = ap length e in
    ap (body_at (suc n) out) e ∙ at_backslash n out s ∙ ap (λ k. escape_at k s >>= (λ q. body_at n (out ++ encode_utf8 q.0) q.1)) (sym len) ∙ ap (λ r. r >>= (λ q. body_at n (out ++ encode_utf8 q.0) q.1)) fails
body_alone _ _ (plain c text b is_c more) rest is (suc n) out h =
    body_plain n out c (b ++ rest) (of_plain c is_c) ∙ body_alone text b more rest is n (out ++ c ∷ []) (omega (arith, h))
body_alone _ _ (escaped c e text more b tail is_c letters t u) rest is (suc n) out h =
    let s = tail ++ rest in
    let whole : b ++ rest ≡ 92 ∷ (e ++ s) = ap (λ x. x ++ rest) u ∙ ap (λ x. 92 ∷ x) (append_assoc e tail rest) in
    let len : length (b ++ rest) ≡ suc (length e + length s) = ap length whole ∙ ap suc (length-append e s) in
    ap (body_at (suc n) out) whole ∙ at_backslash n out (e ++ s) ∙ ap (λ r. r >>= (λ q. body_at n (out ++ encode_utf8 q.0) q.1)) (escape_complete (suc (length (e ++ s))) c e s is_c)
    ∙ body_alone more tail letters rest is n (out ++ encode_utf8 c) (omega (arith, h, len))

pub string_alone : (text inner rest : List ℕ) → Letters text inner → IsLone rest → string_at (34 ∷ (inner ++ rest)) ≡ Err (Lone (length rest))
string_alone text inner rest letters is = at_opening (inner ++ rest) ∙ body_alone text inner letters rest is (suc (length (inner ++ rest))) [] (omega arith)
