-- The machine beside the reading: strings.
use Rattle.std.proofs.Common.{◌≡◌, ℕ, zero, suc, ◌+◌, ◌*◌, ◌<◌, ◌≤◌, Bool, true, false, cond, ◌==◌, ◌||◌, ◌&&◌, List, [], ◌∷◌, ◌++◌, length, Option, Some, None, Result, Ok, Err, refl, sym, ap, ◌∙◌, eqb-true, length-append, arith}
use Rattle.std.proofs.lemmas.Bool.Decides.{nat_tests}
use Rattle.std.specs.Prelude.{codes}
use Rattle.std.specs.Bool.{nat_lt, nat_le}
use Rattle.std.specs.Char.{digit_value, encode_utf8, is_digit}
use Rattle.jtext.specs.declared.fault.Fault.{Fault}
use Rattle.jtext.specs.declared.fault.Fault.TheVariants.{NoMemory, Bad, Deep, Repeated, Lone}
use Rattle.jtext.specs.Readings.{Reading, ◌>>=◌, or_fault, strip_word}
use Rattle.jtext.specs.Strings.{short, is_plain, character_of_pair, any_digit_at, four_at, cut_or_lone, low_letter_at, low_digit_at, low_at, unit_at, unicode_at, short_to, escape_at, body_at, string_at}
use Rattle.jtext.proofs.Machine as machine
use Rattle.jtext.proofs.Machine.{Frame, State, at, after, text, escape, unit, string_end, step, run, Open, Stops, Like, Passed, Follows}
use Rattle.jtext.proofs.Binds.{test}
use Rattle.jtext.proofs.StringLaws.{strip_one, escape_sound}
use Rattle.jtext.proofs.Follows.{blank, over, one, byte, refused, stays, as_like, bind, no_state, text_open}

-- a fault inside an escape that has left bytes from its backslash on: of a lone surrogate, the backslash is the place
abbrev pub Within : State → ℕ → List ℕ → Fault → Type 0
Within σ left s NoMemory = Stops σ s NoMemory
Within σ left s (Bad n) = Stops σ s (Bad n)
Within σ left s (Deep n) = Stops σ s (Deep n)
Within σ left s (Repeated n) = Stops σ s (Repeated n)
Within σ left s (Lone n) = left ≡ n

abbrev pub Goes : {A : Type 0} → State → State → ℕ → List ℕ → Reading A → Type 0
Goes σ τ left s (Ok p) = Passed σ τ s p.1
Goes σ τ left s (Err f) = Within σ left s f

stops_over : (σ τ : State) (s front rest : List ℕ) (f : Fault) → s ≡ front ++ rest → run σ front ≡ Some τ → Stops τ rest f → Stops σ s f
stops_over σ τ s front rest f e is h = over {A = ℕ} σ τ τ s front rest (Err f) e is h

goes_over : {A : Type 0} (σ τ κ : State) (left : ℕ) (s front rest : List ℕ) (r : Reading A) → s ≡ front ++ rest → run σ front ≡ Some τ → Goes τ κ left rest r → Goes σ κ left s r
goes_over σ τ κ left s front rest (Ok p) e is h = over σ τ κ s front rest (Ok p) e is h
goes_over σ τ κ left s front rest (Err NoMemory) e is h = stops_over σ τ s front rest NoMemory e is h
goes_over σ τ κ left s front rest (Err (Bad n)) e is h = stops_over σ τ s front rest (Bad n) e is h
goes_over σ τ κ left s front rest (Err (Deep n)) e is h = stops_over σ τ s front rest (Deep n) e is h
goes_over σ τ κ left s front rest (Err (Repeated n)) e is h = stops_over σ τ s front rest (Repeated n) e is h
goes_over σ τ κ left s front rest (Err (Lone n)) e is h = h

stops_like : (ρ τ : State) (s : List ℕ) (f : Fault) → Like ρ τ s → Stops τ s f → Stops ρ s f
stops_like ρ τ s f l h = as_like {A = ℕ} ρ τ τ s (Err f) l h

goes_like : {A : Type 0} (ρ τ κ : State) (left : ℕ) (s : List ℕ) (r : Reading A) → Like ρ τ s → Goes τ κ left s r → Goes ρ κ left s r
goes_like ρ τ κ left s (Ok p) l h = as_like ρ τ κ s (Ok p) l h
goes_like ρ τ κ left s (Err NoMemory) l h = stops_like ρ τ s NoMemory l h
goes_like ρ τ κ left s (Err (Bad n)) l h = stops_like ρ τ s (Bad n) l h
goes_like ρ τ κ left s (Err (Deep n)) l h = stops_like ρ τ s (Deep n) l h
goes_like ρ τ κ left s (Err (Repeated n)) l h = stops_like ρ τ s (Repeated n) l h
goes_like ρ τ κ left s (Err (Lone n)) l h = h

goes_bind : {A B : Type 0} (σ τ κ : State) (left : ℕ) (s : List ℕ) (r : Reading A) (f : A × List ℕ → Reading B) → Goes σ τ left s r → ((p : A × List ℕ) → Goes τ κ left p.1 (f p)) → Goes σ κ left s (r >>= f)
goes_bind σ τ κ left s (Ok p) f a b = goes_over σ a.place κ left s a.front p.1 (f p) a.split a.runs (goes_like a.place τ κ left p.1 (f p) a.like (b p))
goes_bind σ τ κ left s (Err g) f a b = a

-- a state has what it has itself
pub itself : (τ : State) (s : List ℕ) → Like τ τ s
itself τ [] = λ h. h
itself τ (c ∷ cs) = refl

module _ (k : Bool) (fs : List Frame) (left : ℕ) where
  any_goes : (σ τ : State) → ((c : ℕ) → step σ c ≡ cond (is_digit c 16) (Some τ) None) → (s : List ℕ) → Goes σ τ left s (any_digit_at s)
  any_goes σ τ steps [] = refused ℕ σ τ [] (λ e. no_state (sym (steps 32) ∙ e))
  any_goes σ τ steps (c ∷ cs) =
      test (λ b. Goes σ τ left (c ∷ cs) (or_fault (Bad (suc (length cs))) (cond b (Some (digit_value c, cs)) None))) (nat_le 0 (digit_value c) && nat_le (digit_value c) 15)
      (λ e.
      let is : is_digit c 16 ≡ true = grind (arith, nat_tests) in
      byte σ τ τ c cs (Ok (digit_value c, cs)) (steps c ∙ ap (λ b. cond b (Some τ) None) is) (stays τ τ (digit_value c, cs) (itself τ cs)))
      (λ e.
      let is : is_digit c 16 ≡ false = grind (arith, nat_tests) in
      refused ℕ σ τ (c ∷ cs) (steps c ∙ ap (λ b. cond b (Some τ) None) is))

  low_goes : (least most : ℕ) → most ≤ 15 → (σ τ : State) → ((c : ℕ) → step σ c ≡ cond (is_digit c 16) (Some τ) None) → (s : List ℕ) → Goes σ τ left s (low_digit_at least most left s)
  low_goes least most fits σ τ steps [] = refused ℕ σ τ [] (λ e. no_state (sym (steps 32) ∙ e))
  low_goes least most fits σ τ steps (c ∷ cs) =
      test (λ b. Goes σ τ left (c ∷ cs) (or_fault (Lone left) (cond b (Some (digit_value c, cs)) None))) (nat_le least (digit_value c) && nat_le (digit_value c) most)
      (λ e.
      let is : is_digit c 16 ≡ true = grind (arith, nat_tests) in
      byte σ τ τ c cs (Ok (digit_value c, cs)) (steps c ∙ ap (λ b. cond b (Some τ) None) is) (stays τ τ (digit_value c, cs) (itself τ cs)))
      (λ e. refl)

  four_goes : (s : List ℕ) → Goes (at (unit k 3) fs) (at (text k) fs) left s (four_at s)
  unfolding four_at
  four_goes s =
      goes_bind (at (unit k 3) fs) (at (unit k 2) fs) (at (text k) fs) left s (any_digit_at s) _ (any_goes (at (unit k 3) fs) (at (unit k 2) fs) (λ c. refl) s) (λ a.
      goes_bind (at (unit k 2) fs) (at (unit k 1) fs) (at (text k) fs) left a.1 (any_digit_at a.1) _ (any_goes (at (unit k 2) fs) (at (unit k 1) fs) (λ c. refl) a.1) (λ b.
      goes_bind (at (unit k 1) fs) (at (unit k 0) fs) (at (text k) fs) left b.1 (any_digit_at b.1) _ (any_goes (at (unit k 1) fs) (at (unit k 0) fs) (λ c. refl) b.1) (λ d.
      goes_bind (at (unit k 0) fs) (at (text k) fs) (at (text k) fs) left d.1 (any_digit_at d.1) _ (any_goes (at (unit k 0) fs) (at (text k) fs) (λ c. refl) d.1) (λ e.
      stays (at (text k) fs) (at (text k) fs) (16 * (16 * (16 * a.0 + b.0) + d.0) + e.0, e.1) (itself (at (text k) fs) e.1)))))

  -- a letter of the escape of a low surrogate; what is read is only the text after it
  abbrev Letter : State → State → List ℕ → Result (List ℕ) Fault → Type 0
  Letter σ τ s (Ok rest) = Passed σ τ s rest
  Letter σ τ s (Err f) = Within σ left s f

  letter_goes : (b : ℕ) (σ τ : State) → step σ b ≡ Some τ → Open σ → (s : List ℕ) (o : Option (List ℕ)) → strip_word (b ∷ []) s ≡ o → Letter σ τ s (or_fault (cut_or_lone left s) o)
  letter_goes b σ τ e unended s (Some rest) is = over {A = ℕ} σ τ τ s (b ∷ []) rest (Ok (blank, rest)) (strip_one b s rest is) (one σ τ b e) (stays τ τ (blank, rest) (itself τ rest))
  letter_goes b σ τ e unended [] None is = refused ℕ σ τ [] unended
  letter_goes b σ τ e unended (c ∷ cs) None is = refl

  letter_bind : {B : Type 0} (σ τ κ : State) (s : List ℕ) (r : Result (List ℕ) Fault) (f : List ℕ → Reading B) → Letter σ τ s r → ((rest : List ℕ) → Goes τ κ left rest (f rest)) → Goes σ κ left s (r >>= f)
  letter_bind σ τ κ s (Ok rest) f a b = goes_over σ a.place κ left s a.front rest (f rest) a.split a.runs (goes_like a.place τ κ left rest (f rest) a.like (b rest))
  letter_bind σ τ κ s (Err g) f a b = a

  low_unit_goes : (s : List ℕ) → Goes (at (text k) fs) (at (text k) fs) left s (low_at left s)
  unfolding low_at
  low_unit_goes s =
      letter_bind (at (text k) fs) (at (escape k) fs) (at (text k) fs) s (low_letter_at (codes "\\") left s) _ (letter_goes 92 (at (text k) fs) (at (escape k) fs) refl (text_open k fs) s _ refl) (λ x.
      letter_bind (at (escape k) fs) (at (unit k 3) fs) (at (text k) fs) x (low_letter_at (codes "u") left x) _ (letter_goes 117 (at (escape k) fs) (at (unit k 3) fs) refl no_state x _ refl) (λ y.
      goes_bind (at (unit k 3) fs) (at (unit k 2) fs) (at (text k) fs) left y (low_digit_at 13 13 left y) _ (low_goes 13 13 (omega arith) (at (unit k 3) fs) (at (unit k 2) fs) (λ c. refl) y) (λ a.
      goes_bind (at (unit k 2) fs) (at (unit k 1) fs) (at (text k) fs) left a.1 (low_digit_at 12 15 left a.1) _ (low_goes 12 15 (omega arith) (at (unit k 2) fs) (at (unit k 1) fs) (λ c. refl) a.1) (λ b.
      goes_bind (at (unit k 1) fs) (at (unit k 0) fs) (at (text k) fs) left b.1 (low_digit_at 0 15 left b.1) _ (low_goes 0 15 (omega arith) (at (unit k 1) fs) (at (unit k 0) fs) (λ c. refl) b.1) (λ d.
      goes_bind (at (unit k 0) fs) (at (text k) fs) (at (text k) fs) left d.1 (low_digit_at 0 15 left d.1) _ (low_goes 0 15 (omega arith) (at (unit k 0) fs) (at (text k) fs) (λ c. refl) d.1) (λ e.
      stays (at (text k) fs) (at (text k) fs) (16 * (16 * (16 * a.0 + b.0) + d.0) + e.0, e.1) (itself (at (text k) fs) e.1)))))))

  unit_goes : (u : ℕ) (s : List ℕ) → Goes (at (text k) fs) (at (text k) fs) left s (unit_at left u s)
  unit_goes u s =
      test (λ b. Goes (at (text k) fs) (at (text k) fs) left s (cond b (Ok (u, s)) (cond (nat_le 0xDC00 u) (Err (Lone left)) (low_at left s >>= (λ p. Ok (character_of_pair u p.0, p.1)))))) (nat_lt u 0xD800 || nat_le 0xE000 u)
      (λ e. stays (at (text k) fs) (at (text k) fs) (u, s) (itself (at (text k) fs) s))
      (λ e. test (λ b. Goes (at (text k) fs) (at (text k) fs) left s (cond b (Err (Lone left)) (low_at left s >>= (λ p. Ok (character_of_pair u p.0, p.1))))) (nat_le 0xDC00 u)
      (λ d. refl)
      (λ d. goes_bind (at (text k) fs) (at (text k) fs) (at (text k) fs) left s (low_at left s) _ (low_unit_goes s) (λ p. stays (at (text k) fs) (at (text k) fs) (character_of_pair u p.0, p.1) (itself (at (text k) fs) p.1))))

  unicode_goes : (s : List ℕ) → Goes (at (unit k 3) fs) (at (text k) fs) left s (unicode_at left s)
  unfolding unicode_at
  unicode_goes s = goes_bind (at (unit k 3) fs) (at (text k) fs) (at (text k) fs) left s (four_at s) _ (four_goes s) (λ p. unit_goes p.0 p.1)

  short_goes : (c : ℕ) (cs : List ℕ) (o : Option ℕ) → (c == 117) ≡ false → short c ≡ o → Goes (at (escape k) fs) (at (text k) fs) left (c ∷ cs) (short_to (c ∷ cs) cs o)
  short_goes c cs None e is = refused ℕ (at (escape k) fs) (at (text k) fs) (c ∷ cs) (ap (λ b. cond b (Some (at (unit k 3) fs)) (machine.step_escape k fs c (short c))) e ∙ ap (machine.step_escape k fs c) is)
  short_goes c cs (Some d) e is =
      byte (at (escape k) fs) (at (text k) fs) (at (text k) fs) c cs (Ok (d, cs)) (ap (λ b. cond b (Some (at (unit k 3) fs)) (machine.step_escape k fs c (short c))) e ∙ ap (machine.step_escape k fs c) is)
      (stays (at (text k) fs) (at (text k) fs) (d, cs) (itself (at (text k) fs) cs))

  escape_goes : (s : List ℕ) → Goes (at (escape k) fs) (at (text k) fs) left s (escape_at left s)
  unfolding escape_at
  escape_goes [] = refused ℕ (at (escape k) fs) (at (text k) fs) [] no_state
  escape_goes (c ∷ cs) =
      test (λ b. Goes (at (escape k) fs) (at (text k) fs) left (c ∷ cs) (cond b (unicode_at left cs) (short_to (c ∷ cs) cs (short c)))) (c == 117)
      (λ e. goes_over (at (escape k) fs) (at (unit k 3) fs) (at (text k) fs) left (c ∷ cs) (c ∷ []) cs (unicode_at left cs) refl
      (one (at (escape k) fs) (at (unit k 3) fs) c (ap (λ b. cond b (Some (at (unit k 3) fs)) (machine.step_escape k fs c (short c))) e)) (unicode_goes cs))
      (λ e. short_goes c cs (short c) e refl)

module _ (k : Bool) (fs : List Frame) where
  -- from the backslash on
  whole_escape : {A : Type 0} (c : ℕ) (cs : List ℕ) (r : Reading A) → step (at (text k) fs) c ≡ Some (at (escape k) fs) → Goes (at (escape k) fs) (at (text k) fs) (suc (length cs)) cs r → Follows (at (text k) fs) (at (text k) fs) (c ∷ cs) r
  whole_escape c cs (Ok p) e h = byte (at (text k) fs) (at (escape k) fs) (at (text k) fs) c cs (Ok p) e h
  whole_escape c cs (Err NoMemory) e h = stops_over (at (text k) fs) (at (escape k) fs) (c ∷ cs) (c ∷ []) cs NoMemory refl (one (at (text k) fs) (at (escape k) fs) c e) h
  whole_escape c cs (Err (Bad n)) e h = stops_over (at (text k) fs) (at (escape k) fs) (c ∷ cs) (c ∷ []) cs (Bad n) refl (one (at (text k) fs) (at (escape k) fs) c e) h
  whole_escape c cs (Err (Deep n)) e h = stops_over (at (text k) fs) (at (escape k) fs) (c ∷ cs) (c ∷ []) cs (Deep n) refl (one (at (text k) fs) (at (escape k) fs) c e) h
  whole_escape c cs (Err (Repeated n)) e h = stops_over (at (text k) fs) (at (escape k) fs) (c ∷ cs) (c ∷ []) cs (Repeated n) refl (one (at (text k) fs) (at (escape k) fs) c e) h
  whole_escape c cs (Err (Lone n)) e h = record { front = []; rest = c ∷ cs; place = at (text k) fs; split = refl; runs = refl; stands = h }

  text_step : (c : ℕ) → step (at (text k) fs) c ≡ cond (is_plain c) (Some (at (text k) fs)) (cond (c == 34) (Some (at (string_end k) fs)) (cond (c == 92) (Some (at (escape k) fs)) None))
  text_step c = refl

  body_follow : (n : ℕ) (out s : List ℕ) → length s < n → Follows (at (text k) fs) (at (string_end k) fs) s (body_at n out s)
  unfolding body_at
  body_follow zero out s room = absurd (omega arith)
  body_follow (suc n) out [] room = refused (List ℕ) (at (text k) fs) (at (string_end k) fs) [] (text_open k fs)
  body_follow (suc n) out (c ∷ cs) room =
      let σ = at (text k) fs in
      let κ = at (string_end k) fs in
      let rest_of = λ (p : ℕ × List ℕ). body_at n (out ++ encode_utf8 p.0) p.1 in
      let escaped = escape_at (suc (length cs)) cs >>= rest_of in
      let bad : Reading (List ℕ) = Err (Bad (suc (length cs))) in
      let s2 = cond (c == 92) (Some (at (escape k) fs)) None in
      let s1 = cond (c == 34) (Some κ) s2 in
      test (λ b. Follows σ κ (c ∷ cs) (cond b (body_at n (out ++ c ∷ []) cs) (cond (c == 34) (Ok (out, cs)) (cond (c == 92) escaped bad)))) (is_plain c)
      (λ e. byte σ σ κ c cs (body_at n (out ++ c ∷ []) cs) (ap (λ b. cond b (Some σ) s1) e) (body_follow n (out ++ c ∷ []) cs (omega arith)))
      (λ e. test (λ b. Follows σ κ (c ∷ cs) (cond b (Ok (out, cs)) (cond (c == 92) escaped bad))) (c == 34)
      (λ d. byte σ κ κ c cs (Ok (out, cs)) (ap (λ b. cond b (Some σ) s1) e ∙ ap (λ b. cond b (Some κ) s2) d) (stays κ κ (out, cs) (itself κ cs)))
      (λ d. test (λ b. Follows σ κ (c ∷ cs) (cond b escaped bad)) (c == 92)
      (λ g. bind σ σ κ (c ∷ cs) (escape_at (suc (length cs)) cs) rest_of
      (whole_escape c cs (escape_at (suc (length cs)) cs) (ap (λ b. cond b (Some σ) s1) e ∙ ap (λ b. cond b (Some κ) s2) d ∙ ap (λ b. cond b (Some (at (escape k) fs)) None) g) (escape_goes k fs (suc (length cs)) cs))
      (λ p is.
      let (front, what, split) = escape_sound (suc (length cs)) cs p is in
      body_follow n (out ++ encode_utf8 p.0) p.1 (omega (arith, room, ap length split, length-append front p.1))))
      (λ g. refused (List ℕ) σ κ (c ∷ cs) (ap (λ b. cond b (Some σ) s1) e ∙ ap (λ b. cond b (Some κ) s2) d ∙ ap (λ b. cond b (Some (at (escape k) fs)) None) g))))

  -- at the opening quote
  pub string_follow : (σ : State) → step σ 34 ≡ Some (at (text k) fs) → Open σ → (s : List ℕ) → ((c : ℕ) (cs : List ℕ) → s ≡ c ∷ cs → (c == 34) ≡ false → step σ c ≡ None) → Follows σ (at (string_end k) fs) s (string_at s)
  unfolding string_at
  string_follow σ opens unended [] others = refused (List ℕ) σ (at (string_end k) fs) [] unended
  string_follow σ opens unended (c ∷ cs) others =
      test (λ b. Follows σ (at (string_end k) fs) (c ∷ cs) (cond b (body_at (suc (length cs)) [] cs) (Err (Bad (suc (length cs)))))) (c == 34)
      (λ e. byte σ (at (text k) fs) (at (string_end k) fs) c cs (body_at (suc (length cs)) [] cs) (ap (step σ) (eqb-true c 34 e) ∙ opens) (body_follow (suc (length cs)) [] cs (omega arith)))
      (λ e. refused (List ℕ) σ (at (string_end k) fs) (c ∷ cs) (others c cs refl e))
