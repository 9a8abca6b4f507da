-- The machine beside the reading: words and numbers.
use Rattle.std.proofs.Common.{◌≡◌, ℕ, suc, ◌-◌, ◌≢◌, true, false, cond, ◌==◌, ◌||◌, List, [], ◌∷◌, length, take, Option, Some, None, Ok, Err, inl, inr, refl, sym, ap, ◌∙◌, subst, ne_eqb, arith}
use Rattle.std.proofs.lemmas.Bool.{cases_Bool}
use Rattle.std.proofs.lemmas.Bool.Decides.{nat_tests}
use Rattle.std.specs.Option.{option_and_then}
use Rattle.std.specs.Prelude.{nat_eq, nat_lt}
use Rattle.std.specs.Char.{is_ascii_digit}
use Rattle.jtext.specs.declared.json.Json.{Json}
use Rattle.jtext.specs.declared.json.Json.TheVariants as json
use Rattle.jtext.specs.declared.fault.Fault.TheVariants.{Bad}
use Rattle.jtext.specs.Readings.{Reading, strip_word}
use Rattle.jtext.specs.Reading.{is_space, skip_digits, ascii_front, after_digits, after_minus, after_sign, after_whole, after_fraction, after_exponent, after_number, word_at, word_stop, number_to, number_stop, whole_stop, fraction_stop, exponent_stop}
use Rattle.jtext.proofs.Machine as machine
use Rattle.jtext.proofs.Machine.{Frame, Mode, State, at, value, after, word, minus, zero_, whole, point, fraction, tail, power, sign, exponent, step, run, Open, Like, Passed, Follows}
use Rattle.jtext.proofs.Binds.{test, some_is, no_some}
use Rattle.jtext.proofs.Follows.{blank, over, byte, refused, stays, as_like, no_state, modes}

-- ---- words

strip_step : (n c : ℕ) (ns cs : List ℕ) → (c == n) ≡ true → strip_word (n ∷ ns) (c ∷ cs) ≡ strip_word ns cs
strip_step n c ns cs e = let t : nat_eq n c ≡ true = grind (arith, nat_tests) in rw t refl

strip_stop : (n c : ℕ) (ns cs : List ℕ) → (c == n) ≡ false → strip_word (n ∷ ns) (c ∷ cs) ≡ None
strip_stop n c ns cs e = let t : nat_eq n c ≡ false = grind (arith, nat_tests) in rw t refl

-- no text ends within a word
word_open : (n : ℕ) (ns : List ℕ) (fs : List Frame) → Open (at (word (n ∷ ns)) fs)
word_open n ns fs e =
    elim (cases_Bool (32 == n)) [
      | inl t ↦ let m : word ns ≡ after = modes (word ns) fs (sym (ap (λ b. cond b (Some (at (word ns) fs)) None) t) ∙ e) in cc
      | inr t ↦ no_state (sym (ap (λ b. cond b (Some (at (word ns) fs)) None) t) ∙ e)
    ]

word_end : (fs : List Frame) (s : List ℕ) → Like (at (word []) fs) (at after fs) s
word_end fs [] = λ h. h
word_end fs (c ∷ cs) = refl

word_step : (n c : ℕ) (ns cs : List ℕ) (v : Json) (o : Option (List ℕ)) → (c == n) ≡ true → word_at (n ∷ ns) v (c ∷ cs) o ≡ word_at ns v cs o
unfolding word_stop
word_step n c ns cs v None e = ap (λ b. Err (Bad (cond b (word_stop ns cs) (suc (length cs))))) e
word_step n c ns cs v (Some rest) e = refl

pub word_follow : (fs : List Frame) (name s : List ℕ) (v : Json) (o : Option (List ℕ)) → strip_word name s ≡ o → Follows (at (word name) fs) (at after fs) s (word_at name v s o)
unfolding word_stop
word_follow fs [] s v None e = absurd (no_some s (sym e))
word_follow fs [] s v (Some rest) e = record { front = []; place = at (word []) fs; split = some_is s rest e; runs = refl; like = word_end fs rest }
word_follow fs (n ∷ ns) [] v None e = refused Json (at (word (n ∷ ns)) fs) (at after fs) [] (word_open n ns fs)
word_follow fs (n ∷ ns) [] v (Some rest) e = absurd (no_some rest e)
word_follow fs (n ∷ ns) (c ∷ cs) v None e =
    elim (cases_Bool (c == n)) [
      | inl t ↦
          subst (Follows (at (word (n ∷ ns)) fs) (at after fs) (c ∷ cs)) (sym (word_step n c ns cs v None t))
          (byte (at (word (n ∷ ns)) fs) (at (word ns) fs) (at after fs) c cs (word_at ns v cs None) (ap (λ b. cond b (Some (at (word ns) fs)) None) t) (word_follow fs ns cs v None (sym (strip_step n c ns cs t) ∙ e)))
      | inr t ↦
          subst (λ k. Follows {A = Json} (at (word (n ∷ ns)) fs) (at after fs) (c ∷ cs) (Err (Bad k))) (sym (ap (λ b. cond b (word_stop ns cs) (suc (length cs))) t))
          (refused Json (at (word (n ∷ ns)) fs) (at after fs) (c ∷ cs) (ap (λ b. cond b (Some (at (word ns) fs)) None) t))
    ]
word_follow fs (n ∷ ns) (c ∷ cs) v (Some rest) e =
    elim (cases_Bool (c == n)) [
      | inl t ↦ byte (at (word (n ∷ ns)) fs) (at (word ns) fs) (at after fs) c cs (word_at ns v cs (Some rest)) (ap (λ b. cond b (Some (at (word ns) fs)) None) t) (word_follow fs ns cs v (Some rest) (sym (strip_step n c ns cs t) ∙ e))
      | inr t ↦ absurd (no_some rest (sym (strip_stop n c ns cs t) ∙ e))
    ]

-- ---- numbers

-- a part of a number was passed, or it stops there
abbrev part : ℕ → Option (List ℕ) → Reading ℕ
part stop None = Err (Bad stop)
part stop (Some rest) = Ok (blank, rest)

module _ (fs : List Frame) where
  digits_pass : (m : Mode) (τ : State) → ((c : ℕ) → is_ascii_digit c ≡ true → step (at m fs) c ≡ Some (at m fs)) → ((c : ℕ) → is_ascii_digit c ≡ false → step (at m fs) c ≡ step τ c)
      → (s : List ℕ) → Passed (at m fs) τ s (skip_digits s)
  digits_pass m τ loop other [] = record { front = []; place = at m fs; split = refl; runs = refl; like = λ h e. h (sym (other 32 refl) ∙ e) }
  digits_pass m τ loop other (c ∷ cs) =
      test (λ b. Passed (at m fs) τ (c ∷ cs) (cond b (skip_digits cs) (c ∷ cs))) (is_ascii_digit c)
      (λ e.
      let p = digits_pass m τ loop other cs in
      record { front = c ∷ p.front; place = p.place; split = ap (λ x. c ∷ x) p.split; runs = ap (option_and_then (λ x. run x p.front)) (loop c e) ∙ p.runs; like = p.like })
      (λ e. record { front = []; place = at m fs; split = refl; runs = refl; like = other c e })

  some_digits : (p m : Mode) (τ : State) → ((c : ℕ) → step (at p fs) c ≡ cond (is_ascii_digit c) (Some (at m fs)) None)
      → ((c : ℕ) → is_ascii_digit c ≡ true → step (at m fs) c ≡ Some (at m fs)) → ((c : ℕ) → is_ascii_digit c ≡ false → step (at m fs) c ≡ step τ c)
      → (s : List ℕ) → Follows (at p fs) τ s (part (length s) (after_digits s))
  some_digits p m τ begin loop other [] = refused ℕ (at p fs) τ [] (λ e. no_state (sym (begin 32) ∙ e))
  some_digits p m τ begin loop other (c ∷ cs) =
      test (λ b. Follows (at p fs) τ (c ∷ cs) (part (suc (length cs)) (cond b (Some (skip_digits cs)) None))) (is_ascii_digit c)
      (λ e. byte (at p fs) (at m fs) τ c cs (Ok (blank, skip_digits cs)) (begin c ∙ ap (λ b. cond b (Some (at m fs)) None) e) (digits_pass m τ loop other cs))
      (λ e. refused ℕ (at p fs) τ (c ∷ cs) (begin c ∙ ap (λ b. cond b (Some (at m fs)) None) e))

  exponent_loop : (c : ℕ) → is_ascii_digit c ≡ true → step (at exponent fs) c ≡ Some (at exponent fs)
  exponent_loop c e = ap (λ b. cond b (Some (at exponent fs)) (machine.step_after fs c)) e

  exponent_other : (c : ℕ) → is_ascii_digit c ≡ false → step (at exponent fs) c ≡ step (at after fs) c
  exponent_other c e = ap (λ b. cond b (Some (at exponent fs)) (machine.step_after fs c)) e

  fraction_loop : (c : ℕ) → is_ascii_digit c ≡ true → step (at fraction fs) c ≡ Some (at fraction fs)
  fraction_loop c e = ap (λ b. cond b (Some (at fraction fs)) (machine.step_tail fs c)) e

  fraction_other : (c : ℕ) → is_ascii_digit c ≡ false → step (at fraction fs) c ≡ step (at tail fs) c
  fraction_other c e = ap (λ b. cond b (Some (at fraction fs)) (machine.step_tail fs c)) e

  whole_loop : (c : ℕ) → is_ascii_digit c ≡ true → step (at whole fs) c ≡ Some (at whole fs)
  whole_loop c e = ap (λ b. cond b (Some (at whole fs)) (machine.step_part fs c)) e

  whole_other : (c : ℕ) → is_ascii_digit c ≡ false → step (at whole fs) c ≡ step (at zero_ fs) c
  whole_other c e = ap (λ b. cond b (Some (at whole fs)) (machine.step_part fs c)) e

  sign_follow : (s : List ℕ) (r : Reading ℕ) → Follows (at sign fs) (at after fs) (after_sign s) r → Follows (at power fs) (at after fs) s r
  sign_follow [] r f = as_like (at power fs) (at sign fs) (at after fs) [] r (λ h. h) f
  sign_follow (c ∷ cs) r f =
      test (λ b. ((c == 45) || (c == 43)) ≡ b → Follows (at sign fs) (at after fs) (cond b cs (c ∷ cs)) r → Follows (at power fs) (at after fs) (c ∷ cs) r) ((c == 45) || (c == 43))
      (λ e _ g. byte (at power fs) (at sign fs) (at after fs) c cs r (ap (λ b. cond b (Some (at sign fs)) (machine.step_digit exponent fs c)) e) g)
      (λ e _ g. as_like (at power fs) (at sign fs) (at after fs) (c ∷ cs) r (ap (λ b. cond b (Some (at sign fs)) (machine.step_digit exponent fs c)) e) g)
      refl f

  exponent_follow : (s : List ℕ) → Follows (at tail fs) (at after fs) s (part (exponent_stop (ascii_front s)) (after_exponent s))
  exponent_follow [] = stays (at tail fs) (at after fs) (blank, []) (λ h. h)
  exponent_follow (c ∷ cs) =
      test (λ b. Follows (at tail fs) (at after fs) (c ∷ cs) (part (exponent_stop (ascii_front (c ∷ cs))) (cond b (after_digits (after_sign cs)) (Some (c ∷ cs))))) ((c == 101) || (c == 69))
      (λ e.
      let ascii : nat_lt c 128 ≡ true = grind (arith, nat_tests) in
      let stop : exponent_stop (ascii_front (c ∷ cs)) ≡ length (after_sign cs) = ap (λ b. exponent_stop (cond b (Some (c, cs)) None)) ascii in
      subst (λ k. Follows (at tail fs) (at after fs) (c ∷ cs) (part k (after_digits (after_sign cs)))) (sym stop)
      (byte (at tail fs) (at power fs) (at after fs) c cs _ (ap (λ b. cond b (Some (at power fs)) (machine.step_after fs c)) e)
      (sign_follow cs _ (some_digits sign exponent (at after fs) (λ d. refl) exponent_loop exponent_other (after_sign cs)))))
      (λ e. stays (at tail fs) (at after fs) (blank, c ∷ cs) (ap (λ b. cond b (Some (at power fs)) (machine.step_after fs c)) e))

  fraction_follow : (s : List ℕ) → Follows (at zero_ fs) (at tail fs) s (part (length s - 1) (after_fraction s))
  fraction_follow [] = stays (at zero_ fs) (at tail fs) (blank, []) (λ h. h)
  fraction_follow (c ∷ cs) =
      let less : length cs ≡ length (c ∷ cs) - 1 = omega arith in
      subst (λ k. Follows (at zero_ fs) (at tail fs) (c ∷ cs) (part k (after_fraction (c ∷ cs)))) less (test (λ b. Follows (at zero_ fs) (at tail fs) (c ∷ cs) (part (length cs) (cond b (after_digits cs) (Some (c ∷ cs))))) (c == 46)
      (λ e. byte (at zero_ fs) (at point fs) (at tail fs) c cs _ (ap (λ b. cond b (Some (at point fs)) (machine.step_tail fs c)) e) (some_digits point fraction (at tail fs) (λ d. refl) fraction_loop fraction_other cs))
      (λ e. stays (at zero_ fs) (at tail fs) (blank, c ∷ cs) (ap (λ b. cond b (Some (at point fs)) (machine.step_tail fs c)) e)))

  itself : (τ : State) (s : List ℕ) → Like τ τ s
  itself τ [] = λ h. h
  itself τ (c ∷ cs) = refl

  whole_follow : (s : List ℕ) → Follows (at minus fs) (at zero_ fs) s (part (length s) (after_whole s))
  whole_follow [] = refused ℕ (at minus fs) (at zero_ fs) [] no_state
  whole_follow (c ∷ cs) =
      test (λ b. Follows (at minus fs) (at zero_ fs) (c ∷ cs) (part (suc (length cs)) (cond b (Some cs) (cond (is_ascii_digit c) (Some (skip_digits cs)) None)))) (c == 48)
      (λ e. byte (at minus fs) (at zero_ fs) (at zero_ fs) c cs (Ok (blank, cs)) (ap (λ b. cond b (Some (at zero_ fs)) (cond (is_ascii_digit c) (Some (at whole fs)) None)) e) (stays (at zero_ fs) (at zero_ fs) (blank, cs) (itself (at zero_ fs) cs)))
      (λ e. test (λ b. Follows (at minus fs) (at zero_ fs) (c ∷ cs) (part (suc (length cs)) (cond b (Some (skip_digits cs)) None))) (is_ascii_digit c)
      (λ d. byte (at minus fs) (at whole fs) (at zero_ fs) c cs (Ok (blank, skip_digits cs))
      (ap (λ b. cond b (Some (at zero_ fs)) (cond (is_ascii_digit c) (Some (at whole fs)) None)) e ∙ ap (λ b. cond b (Some (at whole fs)) None) d) (digits_pass whole (at zero_ fs) whole_loop whole_other cs))
      (λ d. refused ℕ (at minus fs) (at zero_ fs) (c ∷ cs) (ap (λ b. cond b (Some (at zero_ fs)) (cond (is_ascii_digit c) (Some (at whole fs)) None)) e ∙ ap (λ b. cond b (Some (at whole fs)) None) d)))

  -- the number whose text begins at s
  numbered : List ℕ → ℕ → Option (List ℕ) → Reading Json
  numbered s stop None = Err (Bad stop)
  numbered s stop (Some rest) = Ok (json.Num (take (length s - length rest) s), rest)

  from_exponent : (s u : List ℕ) (stop : ℕ) (o : Option (List ℕ)) → Follows (at tail fs) (at after fs) u (part stop o) → Follows (at tail fs) (at after fs) u (numbered s stop o)
  unfolding numbered
  from_exponent s u stop None f = f
  from_exponent s u stop (Some rest) f = f

  from_fraction : (s u : List ℕ) (o : Option (List ℕ)) → Follows (at zero_ fs) (at tail fs) u (part (length u - 1) o) → Follows (at zero_ fs) (at after fs) u (numbered s (fraction_stop u o) (option_and_then after_exponent o))
  unfolding numbered
  from_fraction s u None f = f
  from_fraction s u (Some rest) f =
      over (at zero_ fs) f.place (at after fs) u f.front rest _ f.split f.runs
      (as_like f.place (at tail fs) (at after fs) rest _ f.like (from_exponent s rest (exponent_stop (ascii_front rest)) (after_exponent rest) (exponent_follow rest)))

  from_whole : (s u : List ℕ) (o : Option (List ℕ)) → Follows (at minus fs) (at zero_ fs) u (part (length u) o)
      → Follows (at minus fs) (at after fs) u (numbered s (whole_stop u o) (option_and_then after_exponent (option_and_then after_fraction o)))
  unfolding numbered
  from_whole s u None f = f
  from_whole s u (Some rest) f =
      over (at minus fs) f.place (at after fs) u f.front rest _ f.split f.runs (as_like f.place (at zero_ fs) (at after fs) rest _ f.like (from_fraction s rest (after_fraction rest) (fraction_follow rest)))

  is_numbered : (s : List ℕ) (o : Option (List ℕ)) → number_to s o ≡ numbered s (number_stop s) o
  unfolding numbered
  is_numbered s None = refl
  is_numbered s (Some rest) = refl

  -- a byte that begins no other value
  pub record Other (c : ℕ) : Type 0 where
    pub n : c ≢ 110
    pub t : c ≢ 116
    pub f : c ≢ 102
    pub quote : c ≢ 34
    pub list : c ≢ 91
    pub object : c ≢ 123
    pub space : is_space c ≡ false

  value_step : (c : ℕ) → Other c → step (at value fs) c ≡ cond (c == 45) (Some (at minus fs)) (machine.step_minus fs c)
  value_step c o = rw (ne_eqb c 110 o.n, ne_eqb c 116 o.t, ne_eqb c 102 o.f, ne_eqb c 34 o.quote, ne_eqb c 91 o.list, ne_eqb c 123 o.object, o.space) refl

  minus_follow : (c : ℕ) (cs : List ℕ) (r : Reading Json) → Other c → Follows (at minus fs) (at after fs) (after_minus (c ∷ cs)) r → Follows (at value fs) (at after fs) (c ∷ cs) r
  minus_follow c cs r o f =
      test (λ b. Follows (at minus fs) (at after fs) (cond b cs (c ∷ cs)) r → Follows (at value fs) (at after fs) (c ∷ cs) r) (c == 45)
      (λ e g. byte (at value fs) (at minus fs) (at after fs) c cs r (value_step c o ∙ ap (λ b. cond b (Some (at minus fs)) (machine.step_minus fs c)) e) g)
      (λ e g. as_like (at value fs) (at minus fs) (at after fs) (c ∷ cs) r (value_step c o ∙ ap (λ b. cond b (Some (at minus fs)) (machine.step_minus fs c)) e) g)
      f

  pub number_follow : (c : ℕ) (cs : List ℕ) → Other c → Follows (at value fs) (at after fs) (c ∷ cs) (number_to (c ∷ cs) (after_number (c ∷ cs)))
  number_follow c cs o =
      let s = c ∷ cs in
      let u = after_minus s in
      subst (Follows (at value fs) (at after fs) s) (sym (is_numbered s (after_number s))) (minus_follow c cs _ o (from_whole s u (after_whole u) (whole_follow u)))
