-- What the machine accepts is a text of the looser grammar.
use Rattle.std.proofs.Common.{◌≡◌, ℕ, zero, suc, ◌+◌, ◌<◌, ◌≤◌, ◌⊎◌, ◌≢◌, Bool, true, false, cond, ◌==◌, ◌||◌, List, [], ◌∷◌, ◌++◌, length, Option, Some, None, inl, inr, refl, sym, ap, ap₂, ◌∙◌, subst, append_assoc, eqb-true, arith}
use Rattle.std.proofs.lemmas.Bool.{cases_Bool}
use Rattle.std.proofs.lemmas.Bool.Decides.{nat_tests}
use Rattle.std.proofs.lemmas.List.{length-append, append-nil}
use Rattle.std.specs.Option.{option_and_then}
use Rattle.std.specs.Prelude.{codes}
use Rattle.std.specs.Char.{is_ascii_digit, is_digit, digit_value}
use Rattle.jtext.specs.Grammar.{IsSpace, AreSpaces}
use Rattle.jtext.specs.Number.{AreAllDigits, AreDigits, IsMinus, IsSign, IsWhole, IsFraction, IsExponent, IsNumber}
use Rattle.jtext.specs.Strings.{is_plain, IsFour, short}
use Rattle.jtext.specs.Reading.{is_space}
use Rattle.jtext.specs.Loose as loose
use Rattle.jtext.specs.Loose.{Characters, IsString, Value, Values, Members}
use Rattle.jtext.proofs.Machine as machine
use Rattle.jtext.proofs.Machine.{Frame, Mode, State, at, value, first, first_key, key, colon, after, text, escape, unit, word, minus, zero_, whole, point, fraction, power, sign, exponent, string_end, step, run, start}
use Rattle.jtext.proofs.Binds.{test}
use Rattle.jtext.proofs.Follows.{Bare, Loops, loops, after_loops, modes}
use Rattle.jtext.proofs.Fronts.{all-append}
use Rattle.jtext.proofs.NumberRuns.{number_first}
use Rattle.jtext.proofs.Series.{space_of}
use Rattle.jtext.proofs.NumberSound.{digit_of}
use Rattle.jtext.proofs.StringLaws.{plain_of}

-- these bytes lead from the state to a value with nothing open
abbrev Reaches : State → List ℕ → Type 0
Reaches σ s = run σ s ≡ Some (at after [])

by_step : (o : Option State) (cs : List ℕ) → option_and_then (λ τ. run τ cs) o ≡ Some (at after []) → (τ : State) × (o ≡ Some τ) × Reaches τ cs
by_step (Some τ) cs e = (τ, refl, e)
by_step None cs e = cc

stuck : (cs : List ℕ) → option_and_then (λ τ. run τ cs) None ≡ Some (at after []) → ⊥
stuck cs e = cc

frames_ended : (m : Mode) (f : Frame) (fs : List Frame) → ◌≡◌ {A = Option State} (Some (at m (f ∷ fs))) (Some (at after [])) → ⊥
frames_ended m f fs e = let same : at m (f ∷ fs) ≡ at after [] = cc in let frames : f ∷ fs ≡ [] = ap (λ p. p.1) same in cc

module _ (fs : List Frame) where
  -- ---- words and numbers: a part, and what follows it

  abbrev Then : (List ℕ → Type 0) → List ℕ → Type 0
  Then P s = (b : List ℕ) × (r : ℕ) × (rs : List ℕ) × P b × (s ≡ b ++ r ∷ rs) × Reaches (at after fs) (r ∷ rs)

  word_splits : (ls s : List ℕ) → Reaches (at (word ls) fs) s → Then (λ b. b ≡ ls) s
  word_splits [] [] e = let m : word [] ≡ after = modes (word []) fs e in cc
  word_splits [] (c ∷ cs) e = ([], c, cs, refl, refl, e)
  word_splits (l ∷ ls) [] e = let m : word (l ∷ ls) ≡ after = modes (word (l ∷ ls)) fs e in cc
  word_splits (l ∷ ls) (c ∷ cs) e =
      test (λ t. (c == l) ≡ t → option_and_then (λ τ. run τ cs) (cond t (Some (at (word ls) fs)) None) ≡ Some (at after []) → Then (λ b. b ≡ l ∷ ls) (c ∷ cs)) (c == l)
      (λ t _ h. let (b, r, rs, is, split, more) = word_splits ls cs h in (l ∷ b, r, rs, ap (λ x. l ∷ x) is, ap₂ (λ x xs. x ∷ xs) (eqb-true c l t) split, more))
      (λ t _ h. absurd (stuck cs h)) refl e

  exponent_splits : (s : List ℕ) → Reaches (at exponent fs) s → Then AreAllDigits s
  exponent_splits [] e = let m : exponent ≡ after = modes exponent fs e in cc
  exponent_splits (c ∷ cs) e =
      test (λ t. option_and_then (λ τ. run τ cs) (cond t (Some (at exponent fs)) (machine.step_after fs c)) ≡ Some (at after []) → Then AreAllDigits (c ∷ cs)) (is_ascii_digit c)
      (λ t h. let (b, r, rs, is, split, more) = exponent_splits cs h in (c ∷ b, r, rs, (digit_of c t, is), ap (λ x. c ∷ x) split, more))
      (λ t h. ([], c, cs, tt, refl, h)) e

  sign_splits : (s : List ℕ) → Reaches (at sign fs) s → Then AreDigits s
  sign_splits [] e = let m : sign ≡ after = modes sign fs e in cc
  sign_splits (c ∷ cs) e =
      test (λ t. option_and_then (λ τ. run τ cs) (cond t (Some (at exponent fs)) None) ≡ Some (at after []) → Then AreDigits (c ∷ cs)) (is_ascii_digit c)
      (λ t h. let (b, r, rs, is, split, more) = exponent_splits cs h in (c ∷ b, r, rs, (omega arith, (digit_of c t, is)), ap (λ x. c ∷ x) split, more))
      (λ t h. absurd (stuck cs h)) e

  -- after `e`: a sign perhaps, and digits
  abbrev Signed : List ℕ → Type 0
  Signed b = (s : List ℕ) × (ds : List ℕ) × IsSign s × AreDigits ds × (b ≡ s ++ ds)

  a_sign : (c : ℕ) → ((c == 45) || (c == 43)) ≡ true → IsSign (c ∷ [])
  a_sign c e =
      let which : (c ≡ 43) ⊎ (c ≡ 45) = grind (arith, nat_tests) in
      elim which [ inl h ↦ inr (inl (ap (λ x. x ∷ []) h)) | inr h ↦ inr (inr (ap (λ x. x ∷ []) h)) ]

  power_splits : (s : List ℕ) → Reaches (at power fs) s → Then Signed s
  power_splits [] e = let m : power ≡ after = modes power fs e in cc
  power_splits (c ∷ cs) e =
      test (λ t. option_and_then (λ τ. run τ cs) (cond t (Some (at sign fs)) (machine.step_digit exponent fs c)) ≡ Some (at after []) → Then Signed (c ∷ cs)) ((c == 45) || (c == 43))
      (λ t h. let (b, r, rs, is, split, more) = sign_splits cs h in (c ∷ b, r, rs, (c ∷ [], b, a_sign c t, is, refl), ap (λ x. c ∷ x) split, more))
      (λ t h. let (b, r, rs, is, split, more) = sign_splits (c ∷ cs) h in (b, r, rs, ([], b, inl refl, is, refl), split, more)) e

  an_e : (c : ℕ) → ((c == 101) || (c == 69)) ≡ true → (c ≡ 69) ⊎ (c ≡ 101)
  an_e c e = grind (arith, nat_tests)

  -- what may follow the fraction
  tail_splits : (c : ℕ) (cs : List ℕ) → option_and_then (λ τ. run τ cs) (machine.step_tail fs c) ≡ Some (at after []) → Then IsExponent (c ∷ cs)
  tail_splits c cs e =
      test (λ t. option_and_then (λ τ. run τ cs) (cond t (Some (at power fs)) (machine.step_after fs c)) ≡ Some (at after []) → Then IsExponent (c ∷ cs)) ((c == 101) || (c == 69))
      (λ t h.
      let (b, r, rs, (s, ds, is_s, is_ds, parts), split, more) = power_splits cs h in
      (c ∷ b, r, rs, inr (c, s, ds, an_e c t, is_s, is_ds, ap (λ x. c ∷ x) parts), ap (λ x. c ∷ x) split, more))
      (λ t h. ([], c, cs, inl refl, refl, h)) e

  -- digits of a fraction, and an exponent perhaps
  abbrev Digits : List ℕ → Type 0
  Digits b = (ds : List ℕ) × (e : List ℕ) × AreAllDigits ds × IsExponent e × (b ≡ ds ++ e)

  fraction_splits : (s : List ℕ) → Reaches (at fraction fs) s → Then Digits s
  fraction_splits [] e = let m : fraction ≡ after = modes fraction fs e in cc
  fraction_splits (c ∷ cs) e =
      test (λ t. option_and_then (λ τ. run τ cs) (cond t (Some (at fraction fs)) (machine.step_tail fs c)) ≡ Some (at after []) → Then Digits (c ∷ cs)) (is_ascii_digit c)
      (λ t h. let (b, r, rs, (ds, x, is_ds, is_x, parts), split, more) = fraction_splits cs h in (c ∷ b, r, rs, (c ∷ ds, x, (digit_of c t, is_ds), is_x, ap (λ y. c ∷ y) parts), ap (λ y. c ∷ y) split, more))
      (λ t h. let (b, r, rs, is, split, more) = tail_splits c cs h in (b, r, rs, ([], b, tt, is, refl), split, more)) e

  -- a fraction perhaps, and an exponent perhaps
  abbrev Tail : List ℕ → Type 0
  Tail b = (f : List ℕ) × (e : List ℕ) × IsFraction f × IsExponent e × (b ≡ f ++ e)

  point_splits : (s : List ℕ) → Reaches (at point fs) s → Then (λ b. Tail (46 ∷ b)) s
  point_splits [] e = let m : point ≡ after = modes point fs e in cc
  point_splits (c ∷ cs) e =
      test (λ t. option_and_then (λ τ. run τ cs) (cond t (Some (at fraction fs)) None) ≡ Some (at after []) → Then (λ b. Tail (46 ∷ b)) (c ∷ cs)) (is_ascii_digit c)
      (λ t h.
      let (b, r, rs, (ds, x, is_ds, is_x, parts), split, more) = fraction_splits cs h in
      (c ∷ b, r, rs, (46 ∷ c ∷ ds, x, inr (c ∷ ds, (omega arith, (digit_of c t, is_ds)), refl), is_x, ap (λ y. 46 ∷ c ∷ y) parts), ap (λ y. c ∷ y) split, more))
      (λ t h. absurd (stuck cs h)) e

  part_splits : (c : ℕ) (cs : List ℕ) → option_and_then (λ τ. run τ cs) (machine.step_part fs c) ≡ Some (at after []) → Then Tail (c ∷ cs)
  part_splits c cs e =
      test (λ t. (c == 46) ≡ t → option_and_then (λ τ. run τ cs) (cond t (Some (at point fs)) (machine.step_tail fs c)) ≡ Some (at after []) → Then Tail (c ∷ cs)) (c == 46)
      (λ t _ h. let (b, r, rs, is, split, more) = point_splits cs h in (46 ∷ b, r, rs, is, ap₂ (λ x xs. x ∷ xs) (eqb-true c 46 t) split, more))
      (λ t _ h. let (b, r, rs, is, split, more) = tail_splits c cs h in (b, r, rs, ([], b, inl refl, is, refl), split, more)) refl e

  zero_splits : (s : List ℕ) → Reaches (at zero_ fs) s → Then Tail s
  zero_splits [] e = let m : zero_ ≡ after = modes zero_ fs e in cc
  zero_splits (c ∷ cs) e = part_splits c cs e

  -- digits of a whole part, and what may follow them
  abbrev Rest : List ℕ → Type 0
  Rest b = (ds : List ℕ) × (t : List ℕ) × AreAllDigits ds × Tail t × (b ≡ ds ++ t)

  whole_splits : (s : List ℕ) → Reaches (at whole fs) s → Then Rest s
  whole_splits [] e = let m : whole ≡ after = modes whole fs e in cc
  whole_splits (c ∷ cs) e =
      test (λ t. option_and_then (λ τ. run τ cs) (cond t (Some (at whole fs)) (machine.step_part fs c)) ≡ Some (at after []) → Then Rest (c ∷ cs)) (is_ascii_digit c)
      (λ t h. let (b, r, rs, (ds, x, is_ds, is_x, parts), split, more) = whole_splits cs h in (c ∷ b, r, rs, (c ∷ ds, x, (digit_of c t, is_ds), is_x, ap (λ y. c ∷ y) parts), ap (λ y. c ∷ y) split, more))
      (λ t h. let (b, r, rs, is, split, more) = part_splits c cs h in (b, r, rs, ([], b, tt, is, refl), split, more)) e

  number_is : (m w t b : List ℕ) → IsMinus m → IsWhole w → Tail t → b ≡ m ++ (w ++ t) → IsNumber b
  number_is m w t b is_m is_w (f, e, is_f, is_e, parts) split =
      record { minus = m; whole = w; fraction = f; exponent = e; is_minus = is_m; is_whole = is_w; is_fraction = is_f; is_exponent = is_e; text = split ∙ ap (λ x. m ++ (w ++ x)) parts }

  above : (c : ℕ) → (c == 48) ≡ false → is_ascii_digit c ≡ true → (49 ≤ c) × (c ≤ 57)
  above c e d = (grind (arith, nat_tests), grind (arith, nat_tests))

  -- a number without its sign
  minus_splits : (m : List ℕ) → IsMinus m → (c : ℕ) (cs : List ℕ) → option_and_then (λ τ. run τ cs) (machine.step_minus fs c) ≡ Some (at after []) → Then (λ b. IsNumber (m ++ b)) (c ∷ cs)
  minus_splits m is_m c cs e =
      test (λ t. (c == 48) ≡ t → option_and_then (λ τ. run τ cs) (cond t (Some (at zero_ fs)) (cond (is_ascii_digit c) (Some (at whole fs)) None)) ≡ Some (at after []) → Then (λ b. IsNumber (m ++ b)) (c ∷ cs)) (c == 48)
      (λ t _ h. let (b, r, rs, is, split, more) = zero_splits cs h in (48 ∷ b, r, rs, number_is m (48 ∷ []) b _ is_m (inl refl) is refl, ap₂ (λ x xs. x ∷ xs) (eqb-true c 48 t) split, more))
      (λ t _ h. test (λ u. is_ascii_digit c ≡ u → option_and_then (λ τ. run τ cs) (cond u (Some (at whole fs)) None) ≡ Some (at after []) → Then (λ b. IsNumber (m ++ b)) (c ∷ cs)) (is_ascii_digit c)
      (λ u _ g.
      let (b, r, rs, (ds, x, is_ds, is_x, parts), split, more) = whole_splits cs g in
      let range = above c t u in
      (c ∷ b, r, rs, number_is m (c ∷ ds) x _ is_m (inr (c, ds, range.0, range.1, is_ds, refl)) is_x (ap (λ y. m ++ (c ∷ y)) parts), ap (λ y. c ∷ y) split, more))
      (λ u _ g. absurd (stuck cs g)) refl h) refl e

  sign_number : (s : List ℕ) → Reaches (at minus fs) s → Then (λ b. IsNumber (45 ∷ b)) s
  sign_number [] e = let m : minus ≡ after = modes minus fs e in cc
  sign_number (c ∷ cs) e = minus_splits (45 ∷ []) (inr refl) c cs e

-- ---- strings

module _ (k : Bool) (fs : List Frame) where
  -- the end of a string, and what follows it
  record Quote (s : List ℕ) : Type 0 where
    inner : List ℕ
    rest : List ℕ
    characters : Characters inner
    split : s ≡ inner ++ 34 ∷ rest
    more : Reaches (at (string_end k) fs) rest

  hex : (c : ℕ) → is_digit c 16 ≡ true → digit_value c ≤ 15
  hex c e = grind (arith, nat_tests)

  unit_step : (n : ℕ) (τ : State) (s : List ℕ) → Reaches (at (unit k n) fs) s → machine.step_unit k n fs ≡ Some τ → (c : ℕ) × (cs : List ℕ) × (s ≡ c ∷ cs) × (digit_value c ≤ 15) × Reaches τ cs
  unit_step n τ [] e is = let m : unit k n ≡ after = modes (unit k n) fs e in cc
  unit_step n τ (c ∷ cs) e is =
      test (λ t. option_and_then (λ σ. run σ cs) (cond t (machine.step_unit k n fs) None) ≡ Some (at after []) → (d : ℕ) × (ds : List ℕ) × (c ∷ cs ≡ d ∷ ds) × (digit_value d ≤ 15) × Reaches τ ds) (is_digit c 16)
      (λ t h. (c, cs, refl, hex c t, ap (option_and_then (λ σ. run σ cs)) (sym is) ∙ h))
      (λ t h. absurd (stuck cs h)) e

  -- the four digits of an escape
  four_splits : (s : List ℕ) → Reaches (at (unit k 3) fs) s → (n : ℕ) × (four : List ℕ) × (rest : List ℕ) × IsFour n four × (s ≡ four ++ rest) × Reaches (at (text k) fs) rest
  four_splits s e =
      let (a, s1, e1, is_a, h1) = unit_step 3 (at (unit k 2) fs) s e refl in
      let (b, s2, e2, is_b, h2) = unit_step 2 (at (unit k 1) fs) s1 h1 refl in
      let (c, s3, e3, is_c, h3) = unit_step 1 (at (unit k 0) fs) s2 h2 refl in
      let (d, s4, e4, is_d, h4) = unit_step 0 (at (text k) fs) s3 h3 refl in (
        _,
        a ∷ b ∷ c ∷ d ∷ [],
        s4,
        record { p = a; q = b; r = c; s = d; is_p = is_a; is_q = is_b; is_r = is_c; is_s = is_d; number = refl; text = refl },
        e1 ∙ ap (λ x. a ∷ x) (e2 ∙ ap (λ x. b ∷ x) (e3 ∙ ap (λ x. c ∷ x) e4)),
        h4,
      )

  short_splits : (c : ℕ) (cs : List ℕ) (o : Option ℕ) → short c ≡ o → option_and_then (λ τ. run τ cs) (machine.step_escape k fs c o) ≡ Some (at after []) → (d : ℕ) × (short c ≡ Some d) × Reaches (at (text k) fs) cs
  short_splits c cs None is e = absurd (stuck cs e)
  short_splits c cs (Some d) is e = (d, is, e)

  -- what stands after a backslash: a letter, or `u` and four digits
  record Escaped (s : List ℕ) : Type 0 where
    front : List ℕ
    rest : List ℕ
    split : s ≡ front ++ rest
    some : 0 < length front
    adds : (inner : List ℕ) → Characters inner → Characters (92 ∷ (front ++ inner))
    more : Reaches (at (text k) fs) rest

  escape_splits : (s : List ℕ) → Reaches (at (escape k) fs) s → Escaped s
  escape_splits [] e = let m : escape k ≡ after = modes (escape k) fs e in cc
  escape_splits (c ∷ cs) e =
      test (λ t. (c == 117) ≡ t → option_and_then (λ τ. run τ cs) (cond t (Some (at (unit k 3) fs)) (machine.step_escape k fs c (short c))) ≡ Some (at after []) → Escaped (c ∷ cs)) (c == 117)
      (λ t _ h.
      let (n, four, rest, is, split, more) = four_splits cs h in
      record { front = 117 ∷ four; rest = rest; split = ap₂ (λ x xs. x ∷ xs) (eqb-true c 117 t) split; some = omega arith; adds = λ inner chars. loose.digits n four inner _ is chars refl; more = more })
      (λ t _ h.
      let (d, is, more) = short_splits c cs (short c) refl h in
      record { front = c ∷ []; rest = cs; split = refl; some = omega arith; adds = λ inner chars. loose.letter c d inner _ is chars refl; more = more }) refl e

  text_splits : (n : ℕ) (s : List ℕ) → length s < n → Reaches (at (text k) fs) s → Quote s
  text_splits zero s room e = absurd (omega arith)
  text_splits (suc n) [] room e = let m : text k ≡ after = modes (text k) fs e in cc
  text_splits (suc n) (c ∷ cs) room e =
      let s2 = cond (c == 92) (Some (at (escape k) fs)) None in
      let s1 = cond (c == 34) (Some (at (string_end k) fs)) s2 in
      test (λ t. option_and_then (λ τ. run τ cs) (cond t (Some (at (text k) fs)) s1) ≡ Some (at after []) → Quote (c ∷ cs)) (is_plain c)
      (λ t h.
      let q = text_splits n cs (omega arith) h in
      record { inner = c ∷ q.inner; rest = q.rest; characters = loose.itself c q.inner (plain_of c t) q.characters; split = ap (λ x. c ∷ x) q.split; more = q.more })
      (λ t h. test (λ u. (c == 34) ≡ u → option_and_then (λ τ. run τ cs) (cond u (Some (at (string_end k) fs)) s2) ≡ Some (at after []) → Quote (c ∷ cs)) (c == 34)
      (λ u _ g. record { inner = []; rest = cs; characters = loose.no_more; split = ap (λ x. x ∷ cs) (eqb-true c 34 u); more = g })
      (λ u _ g. test (λ v. (c == 92) ≡ v → option_and_then (λ τ. run τ cs) (cond v (Some (at (escape k) fs)) None) ≡ Some (at after []) → Quote (c ∷ cs)) (c == 92)
      (λ v _ i.
      let x = escape_splits cs i in
      let q = text_splits n x.rest (omega (arith, room, ap length x.split, length-append x.front x.rest)) x.more in
      record {
        inner = 92 ∷ (x.front ++ q.inner);
        rest = q.rest;
        characters = x.adds q.inner q.characters;
        split = ap₂ (λ y ys. y ∷ ys) (eqb-true c 92 v) (x.split ∙ ap (λ y. x.front ++ y) q.split ∙ sym (append_assoc x.front q.inner (34 ∷ q.rest)));
        more = q.more;
      })
      (λ v _ i. absurd (stuck cs i)) refl g) refl h) e

  -- after the opening quote
  pub string_splits : (s : List ℕ) → Reaches (at (text k) fs) s → (b : List ℕ) × (rest : List ℕ) × IsString b × (34 ∷ s ≡ b ++ rest) × Reaches (at (string_end k) fs) rest
  string_splits s e =
      let q = text_splits (suc (length s)) s (omega arith) e in
      (34 ∷ (q.inner ++ 34 ∷ []), q.rest, (q.inner, q.characters, refl), ap (λ x. 34 ∷ x) (q.split ∙ sym (append_assoc q.inner (34 ∷ []) q.rest)), q.more)

-- ---- values

member_then : (v n l r i w t : List ℕ) → (v ++ (n ++ (l ++ 58 ∷ (r ++ (i ++ w))))) ++ t ≡ v ++ (n ++ (l ++ 58 ∷ (r ++ (i ++ (w ++ t)))))
member_then v n l r i w t = simp append_assoc

members_then : (v n l r i w m t : List ℕ) → (v ++ (n ++ (l ++ 58 ∷ (r ++ (i ++ (w ++ 44 ∷ m)))))) ++ t ≡ v ++ (n ++ (l ++ 58 ∷ (r ++ (i ++ (w ++ 44 ∷ (m ++ t))))))
members_then v n l r i w m t = simp append_assoc

spaces_split : (σ : State) → (s : List ℕ) → Reaches σ s → ((c : ℕ) → is_space c ≡ true → step σ c ≡ Some σ) → (w : List ℕ) × (rest : List ℕ) × AreSpaces w × (s ≡ w ++ rest) × Reaches σ rest × Bare rest
spaces_split σ [] e loops = ([], [], tt, refl, e, tt)
spaces_split σ (c ∷ cs) e loops =
    elim (cases_Bool (is_space c)) [
      | inl t ↦
          let later : Reaches σ cs = sym (ap (option_and_then (λ τ. run τ cs)) (loops c t)) ∙ e in
          let (w, rest, is, split, more, bare) = spaces_split σ cs later loops in
          (c ∷ w, rest, (space_of c t, is), ap (λ x. c ∷ x) split, more, bare)
      | inr t ↦ ([], c ∷ cs, tt, refl, e, t)
    ]

loops_of : (σ : State) → Loops σ → (c : ℕ) → is_space c ≡ true → step σ c ≡ Some σ
loops_of σ l c e = l c (space_of c e)

-- white space before the first of them
padded_values : (w b : List ℕ) → AreSpaces w → Values b → Values (w ++ b)
padded_values w b is (loose.last_value before inner behind _ p v q e) = loose.last_value (w ++ before) inner behind (w ++ b) (all-append IsSpace w before is p) v q (ap (λ t. w ++ t) e ∙ sym (append_assoc w before (inner ++ behind)))
padded_values w b is (loose.next_value before inner behind more _ p v q l e) = loose.next_value (w ++ before) inner behind more (w ++ b) (all-append IsSpace w before is p) v q l (ap (λ t. w ++ t) e ∙ sym (append_assoc w before (inner ++ (behind ++ 44 ∷ more))))

padded_members : (w b : List ℕ) → AreSpaces w → Members b → Members (w ++ b)
padded_members w b is (loose.last_member before name left right inner behind _ p n l r v q e) =
    loose.last_member (w ++ before) name left right inner behind (w ++ b) (all-append IsSpace w before is p) n l r v q (ap (λ t. w ++ t) e ∙ sym (append_assoc w before (name ++ (left ++ 58 ∷ (right ++ (inner ++ behind))))))
padded_members w b is (loose.next_member before name left right inner behind more _ p n l r v q m e) =
    loose.next_member (w ++ before) name left right inner behind more (w ++ b) (all-append IsSpace w before is p) n l r v q m (ap (λ t. w ++ t) e ∙ sym (append_assoc w before (name ++ (left ++ 58 ∷ (right ++ (inner ++ (behind ++ 44 ∷ more)))))))

-- a value, and what follows it
record Valued (fs : List Frame) (s : List ℕ) : Type 0 where
  inner : List ℕ
  rest : List ℕ
  value : Value inner
  split : s ≡ inner ++ rest
  some : 0 < length inner
  last : ((x : List ℕ) × (y : ℕ) × (inner ≡ x ++ y ∷ []) × (y ≢ 32)) ⊎ ((c : ℕ) × (cs : List ℕ) × (rest ≡ c ∷ cs))
  more : Reaches (at after fs) rest

-- what stands between brackets, and what follows them
record Closed (P : List ℕ → Type 0) (close : ℕ) (fs : List Frame) (s : List ℕ) : Type 0 where
  inner : List ℕ
  rest : List ℕ
  is : (AreSpaces inner) ⊎ P inner
  split : s ≡ inner ++ close ∷ rest
  more : Reaches (at after fs) rest

none_begins : (fs : List Frame) → Reaches (at value fs) [] → ⊥
none_begins fs e = let m : value ≡ after = modes value fs e in cc

module _ (n : ℕ) (values : (fs : List Frame) (s : List ℕ) → length s < n → Bare s → Reaches (at value fs) s → Valued fs s) where
  -- after an item of a list
  record Behind (close : ℕ) (mode : Mode) (f : Frame) (fs : List Frame) (s : List ℕ) : Type 0 where
    w : List ℕ
    rest : List ℕ
    spaces : AreSpaces w
    which : ((s ≡ w ++ close ∷ rest) × Reaches (at after fs) rest) ⊎ ((s ≡ w ++ 44 ∷ rest) × Reaches (at mode (f ∷ fs)) rest)

  list_behind : (fs : List Frame) (s : List ℕ) → Reaches (at after (machine.list ∷ fs)) s → Behind 93 value machine.list fs s
  list_behind fs s e =
      let (w, rest, is, split, more, bare) = spaces_split (at after (machine.list ∷ fs)) s e (loops_of _ (after_loops (machine.list ∷ fs))) in
      go w rest is split more bare
    where
      go : (w rest : List ℕ) → AreSpaces w → s ≡ w ++ rest → Reaches (at after (machine.list ∷ fs)) rest → Bare rest → Behind 93 value machine.list fs s
      go w [] is split more bare = absurd (frames_ended after machine.list fs more)
      go w (c ∷ cs) is split more bare =
          let h : option_and_then (λ τ. run τ cs) (cond (c == 93) (Some (at after fs)) (cond (c == 44) (Some (at value (machine.list ∷ fs))) None)) ≡ Some (at after []) =
          sym (ap (λ b. option_and_then (λ τ. run τ cs) (cond b (Some (at after (machine.list ∷ fs))) (cond (c == 93) (Some (at after fs)) (cond (c == 44) (Some (at value (machine.list ∷ fs))) None)))) bare) ∙ more in
          test (λ t. (c == 93) ≡ t → option_and_then (λ τ. run τ cs) (cond t (Some (at after fs)) (cond (c == 44) (Some (at value (machine.list ∷ fs))) None)) ≡ Some (at after []) → Behind 93 value machine.list fs s) (c == 93)
          (λ t _ g. record { w = w; rest = cs; spaces = is; which = inl (split ∙ ap (λ x. w ++ x ∷ cs) (eqb-true c 93 t), g) })
          (λ t _ g. test (λ u. (c == 44) ≡ u → option_and_then (λ τ. run τ cs) (cond u (Some (at value (machine.list ∷ fs))) None) ≡ Some (at after []) → Behind 93 value machine.list fs s) (c == 44)
          (λ u _ i. record { w = w; rest = cs; spaces = is; which = inr (split ∙ ap (λ x. w ++ x ∷ cs) (eqb-true c 44 u), i) })
          (λ u _ i. absurd (stuck cs i)) refl g) refl h

  object_behind : (fs : List Frame) (s : List ℕ) → Reaches (at after (machine.object ∷ fs)) s → Behind 125 key machine.object fs s
  object_behind fs s e =
      let (w, rest, is, split, more, bare) = spaces_split (at after (machine.object ∷ fs)) s e (loops_of _ (after_loops (machine.object ∷ fs))) in
      go w rest is split more bare
    where
      go : (w rest : List ℕ) → AreSpaces w → s ≡ w ++ rest → Reaches (at after (machine.object ∷ fs)) rest → Bare rest → Behind 125 key machine.object fs s
      go w [] is split more bare = absurd (frames_ended after machine.object fs more)
      go w (c ∷ cs) is split more bare =
          let h : option_and_then (λ τ. run τ cs) (cond (c == 125) (Some (at after fs)) (cond (c == 44) (Some (at key (machine.object ∷ fs))) None)) ≡ Some (at after []) =
          sym (ap (λ b. option_and_then (λ τ. run τ cs) (cond b (Some (at after (machine.object ∷ fs))) (cond (c == 125) (Some (at after fs)) (cond (c == 44) (Some (at key (machine.object ∷ fs))) None)))) bare) ∙ more in
          test (λ t. (c == 125) ≡ t → option_and_then (λ τ. run τ cs) (cond t (Some (at after fs)) (cond (c == 44) (Some (at key (machine.object ∷ fs))) None)) ≡ Some (at after []) → Behind 125 key machine.object fs s) (c == 125)
          (λ t _ g. record { w = w; rest = cs; spaces = is; which = inl (split ∙ ap (λ x. w ++ x ∷ cs) (eqb-true c 125 t), g) })
          (λ t _ g. test (λ u. (c == 44) ≡ u → option_and_then (λ τ. run τ cs) (cond u (Some (at key (machine.object ∷ fs))) None) ≡ Some (at after []) → Behind 125 key machine.object fs s) (c == 44)
          (λ u _ i. record { w = w; rest = cs; spaces = is; which = inr (split ∙ ap (λ x. w ++ x ∷ cs) (eqb-true c 44 u), i) })
          (λ u _ i. absurd (stuck cs i)) refl g) refl h

  value_loops : (fs : List Frame) → Loops (at value fs)
  value_loops fs = loops (at value fs) refl refl refl refl

  -- the values of a list from one on
  record Listed (P : List ℕ → Type 0) (close : ℕ) (fs : List Frame) (s : List ℕ) : Type 0 where
    inner : List ℕ
    rest : List ℕ
    is : P inner
    split : s ≡ inner ++ close ∷ rest
    more : Reaches (at after fs) rest

  list_splits : (m : ℕ) (fs : List Frame) (s : List ℕ) → length s < m → m ≤ n → Reaches (at value (machine.list ∷ fs)) s → Listed Values 93 fs s
  list_splits zero fs s room fits e = absurd (omega arith)
  list_splits (suc m) fs s room fits e =
      let (v, t, is_v, split, more, bare) = spaces_split (at value (machine.list ∷ fs)) s e (loops_of _ (value_loops (machine.list ∷ fs))) in
      let len : length s ≡ length v + length t = ap length split ∙ length-append v t in
      let x = values (machine.list ∷ fs) t (omega (arith, len, room, fits)) bare more in
      let len_x : length t ≡ length x.inner + length x.rest = ap length x.split ∙ length-append x.inner x.rest in
      let b = list_behind fs x.rest x.more in
      elim b.which [
        | inl (closed, h) ↦
            record {
              inner = v ++ (x.inner ++ b.w);
              rest = b.rest;
              is = loose.last_value v x.inner b.w _ is_v x.value b.spaces refl;
              split = split ∙ ap (λ y. v ++ y) (x.split ∙ ap (λ y. x.inner ++ y) closed) ∙ simp append_assoc;
              more = h;
            }
        | inr (comma, h) ↦
            let len_b : length x.rest ≡ length b.w + suc (length b.rest) = ap length comma ∙ length-append b.w (44 ∷ b.rest) in
            let l = list_splits m fs b.rest (omega (arith, len, len_x, len_b, room, x.some)) (omega (arith, fits)) h in
            record {
              inner = v ++ (x.inner ++ (b.w ++ 44 ∷ l.inner));
              rest = l.rest;
              is = loose.next_value v x.inner b.w l.inner _ is_v x.value b.spaces l.is refl;
              split = split ∙ ap (λ y. v ++ y) (x.split ∙ ap (λ y. x.inner ++ y) (comma ∙ ap (λ y. b.w ++ 44 ∷ y) l.split)) ∙ simp append_assoc;
              more = l.more;
            }
      ]

  -- a key with its colon
  record Keyed (fs : List Frame) (s : List ℕ) : Type 0 where
    name : List ℕ
    left : List ℕ
    right : List ℕ
    rest : List ℕ
    is_name : IsString name
    is_left : AreSpaces left
    is_right : AreSpaces right
    split : s ≡ name ++ (left ++ 58 ∷ (right ++ rest))
    more : Reaches (at value fs) rest
    bare : Bare rest

  colon_splits : (fs : List Frame) (s : List ℕ) → Reaches (at colon fs) s → (left : List ℕ) × (rest : List ℕ) × AreSpaces left × (s ≡ left ++ 58 ∷ rest) × Reaches (at value fs) rest
  colon_splits fs [] e = let m : colon ≡ after = modes colon fs e in cc
  colon_splits fs (c ∷ cs) e =
      test (λ t. (c == 58) ≡ t → option_and_then (λ τ. run τ cs) (cond t (Some (at value fs)) (cond (is_space c) (Some (at colon fs)) None)) ≡ Some (at after []) → (left : List ℕ) × (rest : List ℕ) × AreSpaces left × (c ∷ cs ≡ left ++ 58 ∷ rest) × Reaches (at value fs) rest) (c == 58)
      (λ t _ h. ([], cs, tt, ap (λ x. x ∷ cs) (eqb-true c 58 t), h))
      (λ t _ h. test (λ u. option_and_then (λ τ. run τ cs) (cond u (Some (at colon fs)) None) ≡ Some (at after []) → (left : List ℕ) × (rest : List ℕ) × AreSpaces left × (c ∷ cs ≡ left ++ 58 ∷ rest) × Reaches (at value fs) rest) (is_space c)
      (λ u g. let (left, rest, is, split, more) = colon_splits fs cs g in (c ∷ left, rest, (space_of c u, is), ap (λ x. c ∷ x) split, more))
      (λ u g. absurd (stuck cs g)) h) refl e

  key_splits : (fs : List Frame) (s : List ℕ) → Bare s → Reaches (at key fs) s → Keyed fs s
  key_splits fs [] bare e = let m : key ≡ after = modes key fs e in cc
  key_splits fs (c ∷ cs) bare e =
      test (λ t. (c == 34) ≡ t → option_and_then (λ τ. run τ cs) (cond t (Some (at (text true) fs)) (cond (is_space c) (Some (at key fs)) None)) ≡ Some (at after []) → Keyed fs (c ∷ cs)) (c == 34)
      (λ t _ h.
      let (name, r, is_name, split, more) = string_splits true fs cs h in
      let (left, u, is_left, split_u, more_u) = colon_splits fs r more in
      let (right, rest, is_right, split_r, more_r, bare_r) = spaces_split (at value fs) u more_u (loops_of _ (value_loops fs)) in
      record {
        name = name;
        left = left;
        right = right;
        rest = rest;
        is_name = is_name;
        is_left = is_left;
        is_right = is_right;
        split = ap (λ x. x ∷ cs) (eqb-true c 34 t) ∙ split ∙ ap (λ y. name ++ y) (split_u ∙ ap (λ y. left ++ 58 ∷ y) split_r);
        more = more_r;
        bare = bare_r;
      })
      (λ t _ h. absurd (stuck cs (sym (ap (λ b. option_and_then (λ τ. run τ cs) (cond b (Some (at key fs)) None)) bare) ∙ h))) refl e

  key_loops : (fs : List Frame) → Loops (at key fs)
  key_loops fs = loops (at key fs) refl refl refl refl

  last_done : (fs : List Frame) (v name left right inner w rest s t u z : List ℕ) → AreSpaces v → IsString name → AreSpaces left → AreSpaces right → Value inner → AreSpaces w
      → s ≡ v ++ t → t ≡ name ++ (left ++ 58 ∷ (right ++ u)) → u ≡ inner ++ z → z ≡ w ++ 125 ∷ rest → Reaches (at after fs) rest → Listed Members 125 fs s
  last_done fs v name left right inner w rest s t u z is_v is_name is_left is_right is_value is_w e1 e2 e3 e4 more =
      record {
        inner = v ++ (name ++ (left ++ 58 ∷ (right ++ (inner ++ w))));
        rest = rest;
        is = loose.last_member v name left right inner w _ is_v is_name is_left is_right is_value is_w refl;
        split = e1 ∙ ap (λ y. v ++ y) (e2 ∙ ap (λ y. name ++ (left ++ 58 ∷ (right ++ y))) (e3 ∙ ap (λ y. inner ++ y) e4)) ∙ sym (member_then v name left right inner w (125 ∷ rest));
        more = more;
      }

  next_done : (fs : List Frame) (v name left right inner w s t u z y : List ℕ) → AreSpaces v → IsString name → AreSpaces left → AreSpaces right → Value inner → AreSpaces w
      → s ≡ v ++ t → t ≡ name ++ (left ++ 58 ∷ (right ++ u)) → u ≡ inner ++ z → z ≡ w ++ 44 ∷ y → Listed Members 125 fs y → Listed Members 125 fs s
  next_done fs v name left right inner w s t u z y is_v is_name is_left is_right is_value is_w e1 e2 e3 e4 l =
      record {
        inner = v ++ (name ++ (left ++ 58 ∷ (right ++ (inner ++ (w ++ 44 ∷ l.inner)))));
        rest = l.rest;
        is = loose.next_member v name left right inner w l.inner _ is_v is_name is_left is_right is_value is_w l.is refl;
        split = e1 ∙ ap (λ y. v ++ y) (e2 ∙ ap (λ y. name ++ (left ++ 58 ∷ (right ++ y))) (e3 ∙ ap (λ y. inner ++ y) (e4 ∙ ap (λ y. w ++ 44 ∷ y) l.split))) ∙ sym (members_then v name left right inner w l.inner (125 ∷ l.rest));
        more = l.more;
      }

  shorter : (v name left right inner w s t u z y : List ℕ) → s ≡ v ++ t → t ≡ name ++ (left ++ 58 ∷ (right ++ u)) → u ≡ inner ++ z → z ≡ w ++ 44 ∷ y → suc (length y) < length s
  shorter v name left right inner w s t u z y e1 e2 e3 e4 =
      let l1 : length s ≡ length v + length t = ap length e1 ∙ length-append v t in
      let l2 : length t ≡ length name + (length left + suc (length right + length u)) =
      ap length e2 ∙ length-append name _ ∙ ap (λ j. length name + j) (length-append left _ ∙ ap (λ j. length left + suc j) (length-append right u)) in
      let l3 : length u ≡ length inner + length z = ap length e3 ∙ length-append inner z in
      let l4 : length z ≡ length w + suc (length y) = ap length e4 ∙ length-append w (44 ∷ y) in
      omega (arith, l1, l2, l3, l4)

  within : (v name left right s t u : List ℕ) → s ≡ v ++ t → t ≡ name ++ (left ++ 58 ∷ (right ++ u)) → length u < length s
  within v name left right s t u e1 e2 =
      let l1 : length s ≡ length v + length t = ap length e1 ∙ length-append v t in
      let l2 : length t ≡ length name + (length left + suc (length right + length u)) =
      ap length e2 ∙ length-append name _ ∙ ap (λ j. length name + j) (length-append left _ ∙ ap (λ j. length left + suc j) (length-append right u)) in
      omega (arith, l1, l2)

  object_splits : (m : ℕ) (fs : List Frame) (s : List ℕ) → length s < m → m ≤ n → Reaches (at key (machine.object ∷ fs)) s → Listed Members 125 fs s
  object_splits zero fs s room fits e = absurd (omega arith)
  object_splits (suc m) fs s room fits e =
      let gs = machine.object ∷ fs in
      let (v, t, is_v, split, more, bare) = spaces_split (at key gs) s e (loops_of _ (key_loops gs)) in
      let k = key_splits gs t bare more in
      let less = within v k.name k.left k.right s t k.rest split k.split in
      let x = values gs k.rest (omega (arith, less, room, fits)) k.bare k.more in
      let b = object_behind fs x.rest x.more in
      elim b.which [
        | inl (closed, h) ↦ last_done fs v k.name k.left k.right x.inner b.w b.rest s t k.rest x.rest is_v k.is_name k.is_left k.is_right x.value b.spaces split k.split x.split closed h
        | inr (comma, h) ↦
            let fewer = shorter v k.name k.left k.right x.inner b.w s t k.rest x.rest b.rest split k.split x.split comma in
            next_done fs v k.name k.left k.right x.inner b.w s t k.rest x.rest b.rest is_v k.is_name k.is_left k.is_right x.value b.spaces split k.split x.split comma
            (object_splits m fs b.rest (omega (arith, fewer, room)) (omega (arith, fits)) h)
      ]

  -- after the opening bracket
  first_splits : (fs : List Frame) (s : List ℕ) → length s < n → Reaches (at first (machine.list ∷ fs)) s → Closed Values 93 fs s
  first_splits fs s room e =
      let gs = machine.list ∷ fs in
      let (w, rest, is, split, more, bare) = spaces_split (at first gs) s e (loops_of _ (loops (at first gs) refl refl refl refl)) in
      go w rest is split more bare
    where
      go : (w rest : List ℕ) → AreSpaces w → s ≡ w ++ rest → Reaches (at first (machine.list ∷ fs)) rest → Bare rest → Closed Values 93 fs s
      go w [] is split more bare = absurd (frames_ended first machine.list fs more)
      go w (c ∷ cs) is split more bare =
          let gs = machine.list ∷ fs in
          test (λ t. (c == 93) ≡ t → option_and_then (λ τ. run τ cs) (cond t (Some (at after fs)) (cond (is_space c) (Some (at first gs)) (machine.step_value gs c))) ≡ Some (at after []) → Closed Values 93 fs s) (c == 93)
          (λ t _ h. record { inner = w; rest = cs; is = inl is; split = split ∙ ap (λ x. w ++ x ∷ cs) (eqb-true c 93 t); more = h })
          (λ t _ h.
          let item : Reaches (at value gs) (c ∷ cs) = sym (ap (λ b. option_and_then (λ τ. run τ cs) (cond b (Some (at first gs)) (machine.step_value gs c))) bare) ∙ h in
          let len : length s ≡ length w + suc (length cs) = ap length split ∙ length-append w (c ∷ cs) in
          let l = list_splits n fs (c ∷ cs) (omega (arith, len, room)) (omega arith) item in
          record { inner = w ++ l.inner; rest = l.rest; is = inr (padded_values w l.inner is l.is); split = split ∙ ap (λ y. w ++ y) l.split ∙ sym (append_assoc w l.inner (93 ∷ l.rest)); more = l.more }) refl more

  first_key_splits : (fs : List Frame) (s : List ℕ) → length s < n → Reaches (at first_key (machine.object ∷ fs)) s → Closed Members 125 fs s
  first_key_splits fs s room e =
      let gs = machine.object ∷ fs in
      let (w, rest, is, split, more, bare) = spaces_split (at first_key gs) s e (loops_of _ (loops (at first_key gs) refl refl refl refl)) in
      go w rest is split more bare
    where
      go : (w rest : List ℕ) → AreSpaces w → s ≡ w ++ rest → Reaches (at first_key (machine.object ∷ fs)) rest → Bare rest → Closed Members 125 fs s
      go w [] is split more bare = absurd (frames_ended first_key machine.object fs more)
      go w (c ∷ cs) is split more bare =
          let gs = machine.object ∷ fs in
          test (λ t. (c == 125) ≡ t → option_and_then (λ τ. run τ cs) (cond t (Some (at after fs)) (cond (is_space c) (Some (at first_key gs)) (machine.step_key gs c))) ≡ Some (at after []) → Closed Members 125 fs s) (c == 125)
          (λ t _ h. record { inner = w; rest = cs; is = inl is; split = split ∙ ap (λ x. w ++ x ∷ cs) (eqb-true c 125 t); more = h })
          (λ t _ h.
          let item : Reaches (at key gs) (c ∷ cs) = sym (ap (λ b. option_and_then (λ τ. run τ cs) (cond b (Some (at first_key gs)) (machine.step_key gs c))) bare) ∙ h in
          let len : length s ≡ length w + suc (length cs) = ap length split ∙ length-append w (c ∷ cs) in
          let l = object_splits n fs (c ∷ cs) (omega (arith, len, room)) (omega arith) item in
          record { inner = w ++ l.inner; rest = l.rest; is = inr (padded_members w l.inner is l.is); split = split ∙ ap (λ y. w ++ y) l.split ∙ sym (append_assoc w l.inner (125 ∷ l.rest)); more = l.more }) refl more

  a_word : (fs : List Frame) (c d : ℕ) (ls cs : List ℕ) → c ≡ d → loose.IsWord (d ∷ ls) → Reaches (at (word ls) fs) cs → Valued fs (c ∷ cs)
  a_word fs c d ls cs e is h =
      let (b, r, rs, same, split, more) = word_splits fs ls cs h in
      record { inner = d ∷ ls; rest = r ∷ rs; value = loose.word (d ∷ ls) is; split = ap₂ (λ x xs. x ∷ xs) e (split ∙ ap (λ x. x ++ r ∷ rs) same); some = omega arith; last = inr (r, rs, refl); more = more }

  an_array : (fs : List Frame) (c : ℕ) (cs : List ℕ) → c ≡ 91 → Closed Values 93 fs cs → Valued fs (c ∷ cs)
  an_array fs c cs e l =
      let whole : c ∷ cs ≡ (91 ∷ (l.inner ++ 93 ∷ [])) ++ l.rest = ap₂ (λ x xs. x ∷ xs) e (l.split ∙ sym (append_assoc l.inner (93 ∷ []) l.rest)) in
      record { inner = 91 ∷ (l.inner ++ 93 ∷ []); rest = l.rest; value = elim l.is [ inl w ↦ loose.empty_array l.inner _ w refl | inr v ↦ loose.array l.inner _ v refl ]; split = whole; some = omega arith; last = inl (91 ∷ l.inner, 93, refl, λ h. absurd (omega (arith, h))); more = l.more }

  an_object : (fs : List Frame) (c : ℕ) (cs : List ℕ) → c ≡ 123 → Closed Members 125 fs cs → Valued fs (c ∷ cs)
  an_object fs c cs e l =
      let whole : c ∷ cs ≡ (123 ∷ (l.inner ++ 125 ∷ [])) ++ l.rest = ap₂ (λ x xs. x ∷ xs) e (l.split ∙ sym (append_assoc l.inner (125 ∷ []) l.rest)) in
      record { inner = 123 ∷ (l.inner ++ 125 ∷ []); rest = l.rest; value = elim l.is [ inl w ↦ loose.empty_object l.inner _ w refl | inr v ↦ loose.object l.inner _ v refl ]; split = whole; some = omega arith; last = inl (123 ∷ l.inner, 125, refl, λ h. absurd (omega (arith, h))); more = l.more }

  a_number : (fs : List Frame) (b : List ℕ) (r : ℕ) (rs s : List ℕ) → IsNumber b → s ≡ b ++ r ∷ rs → Reaches (at after fs) (r ∷ rs) → Valued fs s
  a_number fs b r rs s is split more =
      let (c, cs, begin, lo, hi) = number_first b is in
      record { inner = b; rest = r ∷ rs; value = loose.number b is; split = split; some = omega (arith, ap length begin); last = inr (r, rs, refl); more = more }

  a_value : (fs : List Frame) (c : ℕ) (cs : List ℕ) → length cs < n → is_space c ≡ false → Reaches (at value fs) (c ∷ cs) → Valued fs (c ∷ cs)
  a_value fs c cs room bare e =
      let F = λ (o : Option State). option_and_then (λ τ. run τ cs) o ≡ Some (at after []) → Valued fs (c ∷ cs) in
      let s7 = machine.step_minus fs c in
      let s6 = λ (b : Bool). cond b (Some (at minus fs)) s7 in
      let s5 = λ (b : Bool). cond b (Some (at value fs)) (s6 (c == 45)) in
      let s4 = λ (b : Bool). cond b (Some (at first_key (machine.object ∷ fs))) (s5 (is_space c)) in
      let s3 = λ (b : Bool). cond b (Some (at first (machine.list ∷ fs))) (s4 (c == 123)) in
      let s2 = λ (b : Bool). cond b (Some (at (text false) fs)) (s3 (c == 91)) in
      let s1 = λ (b : Bool). cond b (Some (at (word (codes "alse")) fs)) (s2 (c == 34)) in
      let s0 = λ (b : Bool). cond b (Some (at (word (codes "rue")) fs)) (s1 (c == 102)) in
      let s = λ (b : Bool). cond b (Some (at (word (codes "ull")) fs)) (s0 (c == 116)) in
      (test (λ b. F (s b)) (c == 110) (λ t h. a_word fs c 110 (codes "ull") cs (eqb-true c 110 t) (inl refl) h)
      (λ _. test (λ b. F (s0 b)) (c == 116) (λ t h. a_word fs c 116 (codes "rue") cs (eqb-true c 116 t) (inr (inl refl)) h)
      (λ _. test (λ b. F (s1 b)) (c == 102) (λ t h. a_word fs c 102 (codes "alse") cs (eqb-true c 102 t) (inr (inr refl)) h)
      (λ _. test (λ b. F (s2 b)) (c == 34)
      (λ t h.
      let (b, rest, is, split, more) = string_splits false fs cs h in
      record { inner = b; rest = rest; value = loose.string b is; split = ap (λ x. x ∷ cs) (eqb-true c 34 t) ∙ split; some = omega (arith, ap length is.2); last = inl (34 ∷ is.0, 34, is.2, λ h. absurd (omega (arith, h))); more = more })
      (λ _. test (λ b. F (s3 b)) (c == 91) (λ t h. an_array fs c cs (eqb-true c 91 t) (first_splits fs cs room h))
      (λ _. test (λ b. F (s4 b)) (c == 123) (λ t h. an_object fs c cs (eqb-true c 123 t) (first_key_splits fs cs room h))
      (λ _. test (λ b. is_space c ≡ b → F (s5 b)) (is_space c) (λ t same h. let both : true ≡ false = sym same ∙ bare in cc)
      (λ _ _. test (λ b. F (s6 b)) (c == 45)
      (λ t h. let (b, r, rs, is, split, more) = sign_number fs cs h in a_number fs (45 ∷ b) r rs (c ∷ cs) is (ap₂ (λ x xs. x ∷ xs) (eqb-true c 45 t) split) more)
      (λ _ h. let (b, r, rs, is, split, more) = minus_splits fs [] (inl refl) c cs h in a_number fs b r rs (c ∷ cs) is split more)) refl))))))) e

value_splits : (n : ℕ) (fs : List Frame) (s : List ℕ) → length s < n → Bare s → Reaches (at value fs) s → Valued fs s
value_splits zero fs s room bare e = absurd (omega arith)
value_splits (suc n) fs [] room bare e = absurd (none_begins fs e)
value_splits (suc n) fs (c ∷ cs) room bare e = a_value n (value_splits n) fs c cs (omega arith) bare e

-- ---- the whole text

only_spaces : (s : List ℕ) → Reaches (at after []) s → AreSpaces s
only_spaces [] e = tt
only_spaces (c ∷ cs) e =
    test (λ t. is_space c ≡ t → option_and_then (λ τ. run τ cs) (cond t (Some (at after [])) None) ≡ Some (at after []) → AreSpaces (c ∷ cs)) (is_space c)
    (λ t same h. (space_of c t, only_spaces cs h)) (λ t same h. absurd (stuck cs h)) refl e

-- the space at the very end is not of the value
last_cut : (a b rest : List ℕ) → a ++ 32 ∷ [] ≡ b ++ rest → AreSpaces rest → (c : ℕ) × (cs : List ℕ) × (rest ≡ c ∷ cs) → (w : List ℕ) × AreSpaces w × (a ≡ b ++ w)
last_cut a [] rest e all (c, cs, some) = (a, front_spaces a (subst AreSpaces (sym e) all), refl)
  where
    front_spaces : (x : List ℕ) → AreSpaces (x ++ 32 ∷ []) → AreSpaces x
    front_spaces [] all = tt
    front_spaces (y ∷ ys) all = (all.0, front_spaces ys all.1)
last_cut [] (y ∷ ys) rest e all (c, cs, some) = let len = ap length e in absurd (omega (arith, len, length-append ys rest, ap length some))
last_cut (x ∷ xs) (y ∷ ys) rest e all some =
    let first : x ≡ y = cc in
    let tail : xs ++ 32 ∷ [] ≡ ys ++ rest = cc in
    let (w, is, split) = last_cut xs ys rest tail all some in
    (w, is, ap₂ (λ u us. u ∷ us) first split)

last_same : (a b : List ℕ) (x y : ℕ) → a ++ x ∷ [] ≡ b ++ y ∷ [] → x ≡ y
last_same [] [] x y e = cc
last_same [] (d ∷ ds) x y e = let len = ap length e in absurd (omega (arith, len, length-append ds (y ∷ [])))
last_same (c ∷ cs) [] x y e = let len = ap length e in absurd (omega (arith, len, length-append cs (x ∷ [])))
last_same (c ∷ cs) (d ∷ ds) x y e = let tail : cs ++ x ∷ [] ≡ ds ++ y ∷ [] = cc in last_same cs ds x y tail

pub loose_text : (b : List ℕ) → machine.IsText b → loose.IsText b
loose_text b e =
    let s = b ++ 32 ∷ [] in
    let (w, t, is_w, split, more, bare) = spaces_split start s e (loops_of start (loops start refl refl refl refl)) in
    let v = value_splits (suc (length t)) [] t (omega arith) bare more in
    let all = only_spaces v.rest v.more in
    let joined : s ≡ (w ++ v.inner) ++ v.rest = split ∙ ap (λ y. w ++ y) v.split ∙ sym (append_assoc w v.inner v.rest) in
    ended_by w is_w v.inner v.value v.rest all joined (after_last w v.inner v.rest v.last joined)
  where
    after_last : (w inner rest : List ℕ) → ((x : List ℕ) × (y : ℕ) × (inner ≡ x ++ y ∷ []) × (y ≢ 32)) ⊎ ((c : ℕ) × (cs : List ℕ) × (rest ≡ c ∷ cs)) → b ++ 32 ∷ [] ≡ (w ++ inner) ++ rest → (c : ℕ) × (cs : List ℕ) × (rest ≡ c ∷ cs)
    after_last w inner rest (inr some) joined = some
    after_last w inner (c ∷ cs) (inl last) joined = (c, cs, refl)
    after_last w inner [] (inl (x, y, e, other)) joined =
        let ends : (w ++ inner) ++ [] ≡ (w ++ x) ++ y ∷ [] = append-nil (w ++ inner) ∙ ap (λ z. w ++ z) e ∙ sym (append_assoc w x (y ∷ [])) in
        absurd (other (sym (last_same b (w ++ x) 32 y (joined ∙ ends))))

    ended_by : (w : List ℕ) → AreSpaces w → (inner : List ℕ) → Value inner → (rest : List ℕ) → AreSpaces rest → b ++ 32 ∷ [] ≡ (w ++ inner) ++ rest → (c : ℕ) × (cs : List ℕ) × (rest ≡ c ∷ cs) → loose.IsText b
    ended_by w is_w inner v rest all joined some =
        let (u, is_u, cut) = last_cut b (w ++ inner) rest joined all some in
        record { before = w; inner = inner; after = u; is_before = is_w; value = v; is_after = is_u; text = cut ∙ append_assoc w inner u }
