-- The machine accepts each text of the looser grammar.
use Rattle.std.proofs.Common.{◌≡◌, ℕ, ◌≤◌, Bool, true, false, cond, ◌==◌, List, [], ◌∷◌, ◌++◌, Some, None, Ok, inl, inr, refl, sym, ap, ◌∙◌, subst, append_assoc, arith}
use Rattle.std.proofs.lemmas.Bool.Decides.{nat_tests}
use Rattle.std.specs.Option.{option_and_then}
use Rattle.std.specs.Char.{digit_value, is_digit}
use Rattle.jtext.specs.declared.json.Json.{Json}
use Rattle.jtext.specs.declared.json.Json.TheVariants as json
use Rattle.jtext.specs.Depth.{depth}
use Rattle.jtext.specs.Grammar as grammar
use Rattle.jtext.specs.Grammar.{Spelled, AreSpaces, IsSpace}
use Rattle.jtext.specs.Strings.{IsFour, short}
use Rattle.jtext.specs.Loose as loose
use Rattle.jtext.specs.Loose.{Characters, IsString, IsWord, Value, Values, Members}
use Rattle.jtext.proofs.Machine as machine
use Rattle.jtext.proofs.Machine.{Frame, State, at, value, first, first_key, key, colon, after, text, escape, unit, string_end, step, run, start, Like, Passed, Follows}
use Rattle.jtext.proofs.Follows.{blank, run-append, over, as_like, Loops, loops, run_spaces, after_loops, open_like}
use Rattle.jtext.proofs.Escapes.{itself}
use Rattle.jtext.proofs.Fronts.{all-append}
use Rattle.jtext.proofs.Series.{Begins, Ends, ends_run}
use Rattle.jtext.proofs.StringLaws.{of_plain}
use Rattle.jtext.proofs.Texts.{bare_of, run_like}
use Rattle.jtext.proofs.Documents.{begins, value_complete}
use Rattle.jtext.proofs.Places.{value_follow}

-- ---- one part after another

pass_then : (σ τ κ : State) (s t rest : List ℕ) → Passed σ τ s t → Passed τ κ t rest → Passed σ κ s rest
pass_then σ τ κ s t rest a b = over {A = ℕ} σ a.place κ s a.front t (Ok (blank, rest)) a.split a.runs (as_like {A = ℕ} a.place τ κ t (Ok (blank, rest)) a.like b)

pass_over : (σ τ κ : State) (s front rest t : List ℕ) → s ≡ front ++ rest → run σ front ≡ Some τ → Passed τ κ rest t → Passed σ κ s t
pass_over σ τ κ s front rest t e is b = over {A = ℕ} σ τ κ s front rest (Ok (blank, t)) e is b

pass_like : (σ τ κ : State) (s t : List ℕ) → Like σ τ s → Passed τ κ s t → Passed σ κ s t
pass_like σ τ κ s t like b = as_like {A = ℕ} σ τ κ s (Ok (blank, t)) like b

here : (τ : State) (rest : List ℕ) → Passed τ τ rest rest
here τ rest = record { front = []; place = τ; split = refl; runs = refl; like = itself τ rest }

pass_front : (σ τ : State) (front rest : List ℕ) → run σ front ≡ Some τ → Passed σ τ (front ++ rest) rest
pass_front σ τ front rest is = pass_over σ τ τ (front ++ rest) front rest rest refl is (here τ rest)

-- ---- strings

module _ (k : Bool) (fs : List Frame) where
  a_letter : (c d : ℕ) → short c ≡ Some d → step (at (escape k) fs) c ≡ Some (at (text k) fs)
  a_letter c d e =
      let t : (c == 117) ≡ false = not_u c d e in
      ap (λ b. cond b (Some (at (unit k 3) fs)) (machine.step_escape k fs c (short c))) t ∙ ap (machine.step_escape k fs c) e
    where
      not_u : (c d : ℕ) → short c ≡ Some d → (c == 117) ≡ false
      not_u c d e = grind (arith, nat_tests)

  a_digit : (n c : ℕ) → digit_value c ≤ 15 → step (at (unit k n) fs) c ≡ machine.step_unit k n fs
  a_digit n c h = let t : is_digit c 16 ≡ true = grind (arith, nat_tests) in ap (λ b. cond b (machine.step_unit k n fs) None) t

  four_run : (n : ℕ) (four rest : List ℕ) → IsFour n four → run (at (unit k 3) fs) (four ++ rest) ≡ run (at (text k) fs) rest
  four_run n four rest is =
      ap (λ x. run (at (unit k 3) fs) (x ++ rest)) is.text
      ∙ ap (option_and_then (λ τ. run τ (is.q ∷ is.r ∷ is.s ∷ rest))) (a_digit 3 is.p is.is_p)
      ∙ ap (option_and_then (λ τ. run τ (is.r ∷ is.s ∷ rest))) (a_digit 2 is.q is.is_q)
      ∙ ap (option_and_then (λ τ. run τ (is.s ∷ rest))) (a_digit 1 is.r is.is_r)
      ∙ ap (option_and_then (λ τ. run τ rest)) (a_digit 0 is.s is.is_s)

  chars_run : (b : List ℕ) → Characters b → run (at (text k) fs) b ≡ Some (at (text k) fs)
  chars_run _ loose.no_more = refl
  chars_run _ (loose.itself c b is more) = ap (λ t. option_and_then (λ τ. run τ b) (cond t (Some (at (text k) fs)) (cond (c == 34) (Some (at (string_end k) fs)) (cond (c == 92) (Some (at (escape k) fs)) None)))) (of_plain c is) ∙ chars_run b more
  chars_run b (loose.letter c d more _ is chars e) = ap (run (at (text k) fs)) e ∙ ap (option_and_then (λ τ. run τ more)) (a_letter c d is) ∙ chars_run more chars
  chars_run b (loose.digits n four more _ is chars e) = ap (run (at (text k) fs)) e ∙ four_run n four more is ∙ chars_run more chars

  string_run : (σ : State) → step σ 34 ≡ Some (at (text k) fs) → (b : List ℕ) → IsString b → run σ b ≡ Some (at (string_end k) fs)
  string_run σ opens b (inner, chars, e) =
      ap (run σ) e ∙ ap (option_and_then (λ τ. run τ (inner ++ 34 ∷ []))) opens ∙ run-append (at (text k) fs) (at (text k) fs) inner (34 ∷ []) (chars_run inner chars)

-- ---- the first byte

string_begins : (b rest : List ℕ) → IsString b → Begins (b ++ rest)
string_begins b rest (inner, chars, e) = subst (λ x. Begins (x ++ rest)) (sym e) (refl, omega arith, omega arith)

word_begins : (b rest : List ℕ) → IsWord b → Begins (b ++ rest)
word_begins b rest (inl e) = subst (λ x. Begins (x ++ rest)) (sym e) (refl, omega arith, omega arith)
word_begins b rest (inr (inl e)) = subst (λ x. Begins (x ++ rest)) (sym e) (refl, omega arith, omega arith)
word_begins b rest (inr (inr e)) = subst (λ x. Begins (x ++ rest)) (sym e) (refl, omega arith, omega arith)

value_begins : (b rest : List ℕ) → Value b → Begins (b ++ rest)
value_begins b rest (loose.word _ is) = word_begins b rest is
value_begins b rest (loose.number _ is) = begins (json.Num b) b rest (grammar.number b is)
value_begins b rest (loose.string _ is) = string_begins b rest is
value_begins b rest (loose.empty_array inner _ is e) = subst (λ x. Begins (x ++ rest)) (sym e) (refl, omega arith, omega arith)
value_begins b rest (loose.array inner _ is e) = subst (λ x. Begins (x ++ rest)) (sym e) (refl, omega arith, omega arith)
value_begins b rest (loose.empty_object inner _ is e) = subst (λ x. Begins (x ++ rest)) (sym e) (refl, omega arith, omega arith)
value_begins b rest (loose.object inner _ is e) = subst (λ x. Begins (x ++ rest)) (sym e) (refl, omega arith, omega arith)

-- ---- values

strict_run : (t : Json) (b : List ℕ) → Spelled t b → (fs : List Frame) (rest : List ℕ) → Ends rest → Passed (at value fs) (at after fs) (b ++ rest) rest
strict_run t b is fs rest ends =
    let read = value_complete (depth t) t b is rest (omega arith) ends in
    subst (Follows (at value fs) (at after fs) (b ++ rest)) read (value_follow (depth t) fs (b ++ rest) (bare_of (b ++ rest) (begins t b rest is)))

word_run : (b : List ℕ) → IsWord b → (fs : List Frame) (rest : List ℕ) → Ends rest → Passed (at value fs) (at after fs) (b ++ rest) rest
word_run b (inl e) fs rest ends = strict_run json.Null b (grammar.null b e) fs rest ends
word_run b (inr (inl e)) fs rest ends = strict_run (json.Bool true) b (grammar.yes b e) fs rest ends
word_run b (inr (inr e)) fs rest ends = strict_run (json.Bool false) b (grammar.no b e) fs rest ends

-- a state that begins as τ does, but for white space
record Starts (σ τ : State) : Type 0 where
  spaces : Loops σ
  alike : (s : List ℕ) → Begins s → Like σ τ s

value_starts : (fs : List Frame) → Starts (at value fs) (at value fs)
value_starts fs = record { spaces = loops (at value fs) refl refl refl refl; alike = λ s b. itself (at value fs) s }

key_starts : (fs : List Frame) → Starts (at key fs) (at key fs)
key_starts fs = record { spaces = loops (at key fs) refl refl refl refl; alike = λ s b. itself (at key fs) s }

first_starts : (fs : List Frame) → Starts (at first (machine.list ∷ fs)) (at value (machine.list ∷ fs))
first_starts fs = record { spaces = loops (at first (machine.list ∷ fs)) refl refl refl refl; alike = go }
  where
    go : (s : List ℕ) → Begins s → Like (at first (machine.list ∷ fs)) (at value (machine.list ∷ fs)) s
    go [] b = absurd b
    go (c ∷ cs) b = open_like machine.list fs c cs b.0 b.1

first_key_starts : (fs : List Frame) → Starts (at first_key (machine.object ∷ fs)) (at key (machine.object ∷ fs))
first_key_starts fs = record { spaces = loops (at first_key (machine.object ∷ fs)) refl refl refl refl; alike = go }
  where
    go : (s : List ℕ) → Begins s → Like (at first_key (machine.object ∷ fs)) (at key (machine.object ∷ fs)) s
    go [] b = absurd b
    go (c ∷ cs) b = open_like machine.object fs c cs b.0 b.2

-- white space, and then what begins
starts_pass : (σ τ κ : State) → Starts σ τ → (w s t : List ℕ) → AreSpaces w → Begins s → Passed τ κ s t → Passed σ κ (w ++ s) t
starts_pass σ τ κ st w s t spaces begin b = pass_over σ σ κ (w ++ s) w s t refl (run_spaces σ w st.spaces spaces) (pass_like σ τ κ s t (st.alike s begin) b)

after_pass : (σ κ : State) (fs : List Frame) (w s t : List ℕ) → AreSpaces w → Passed (at after fs) κ s t → Passed (at after fs) κ (w ++ s) t
after_pass σ κ fs w s t spaces b = pass_over (at after fs) (at after fs) κ (w ++ s) w s t refl (run_spaces (at after fs) w (after_loops fs) spaces) b

mutual
  value_runs : (b : List ℕ) → Value b → (fs : List Frame) (rest : List ℕ) → Ends rest → Passed (at value fs) (at after fs) (b ++ rest) rest
  value_runs b (loose.word _ is) fs rest ends = word_run b is fs rest ends
  value_runs b (loose.number _ is) fs rest ends = strict_run (json.Num b) b (grammar.number b is) fs rest ends
  value_runs b (loose.string _ is) fs rest ends = pass_front (at value fs) (at after fs) b rest (string_run false fs (at value fs) refl b is)
  value_runs b (loose.empty_array w _ is e) fs rest ends =
      pass_front (at value fs) (at after fs) b rest
      (ap (run (at value fs)) e ∙ run-append (at first (machine.list ∷ fs)) (at first (machine.list ∷ fs)) w (93 ∷ []) (run_spaces (at first (machine.list ∷ fs)) w (first_starts fs).spaces is))
  value_runs b (loose.array inner _ is e) fs rest ends =
      pass_over (at value fs) (at first (machine.list ∷ fs)) (at after fs) (b ++ rest) (91 ∷ []) (inner ++ 93 ∷ rest) rest (ap (λ x. x ++ rest) e ∙ ap (λ x. 91 ∷ x) (append_assoc inner (93 ∷ []) rest)) refl
      (values_run inner is fs (at first (machine.list ∷ fs)) (first_starts fs) rest)
  value_runs b (loose.empty_object w _ is e) fs rest ends =
      pass_front (at value fs) (at after fs) b rest
      (ap (run (at value fs)) e ∙ run-append (at first_key (machine.object ∷ fs)) (at first_key (machine.object ∷ fs)) w (125 ∷ []) (run_spaces (at first_key (machine.object ∷ fs)) w (first_key_starts fs).spaces is))
  value_runs b (loose.object inner _ is e) fs rest ends =
      pass_over (at value fs) (at first_key (machine.object ∷ fs)) (at after fs) (b ++ rest) (123 ∷ []) (inner ++ 125 ∷ rest) rest (ap (λ x. x ++ rest) e ∙ ap (λ x. 123 ∷ x) (append_assoc inner (125 ∷ []) rest)) refl
      (members_run inner is fs (at first_key (machine.object ∷ fs)) (first_key_starts fs) rest)

  values_run : (b : List ℕ) → Values b → (fs : List Frame) (σ : State) → Starts σ (at value (machine.list ∷ fs)) → (rest : List ℕ) → Passed σ (at after fs) (b ++ 93 ∷ rest) rest
  values_run b (loose.last_value before inner w _ p v q e) fs σ st rest =
      let gs = machine.list ∷ fs in
      let tail = w ++ 93 ∷ rest in
      let parts : (before ++ (inner ++ w)) ++ 93 ∷ rest ≡ before ++ (inner ++ tail) = simp append_assoc in
      subst (λ x. Passed σ (at after fs) x rest) (sym (ap (λ x. x ++ 93 ∷ rest) e ∙ parts))
      (starts_pass σ (at value gs) (at after fs) st before (inner ++ tail) rest p (value_begins inner tail v)
      (pass_then (at value gs) (at after gs) (at after fs) (inner ++ tail) tail rest (value_runs inner v gs tail (ends_run w (93 ∷ rest) q (inr (inr (inl refl)))))
      (after_pass σ (at after fs) gs w (93 ∷ rest) rest q (pass_front (at after gs) (at after fs) (93 ∷ []) rest refl))))
  values_run b (loose.next_value before inner w more _ p v q l e) fs σ st rest =
      let gs = machine.list ∷ fs in
      let left = more ++ 93 ∷ rest in
      let tail = w ++ 44 ∷ left in
      let parts : (before ++ (inner ++ (w ++ 44 ∷ more))) ++ 93 ∷ rest ≡ before ++ (inner ++ tail) = simp append_assoc in
      subst (λ x. Passed σ (at after fs) x rest) (sym (ap (λ x. x ++ 93 ∷ rest) e ∙ parts))
      (starts_pass σ (at value gs) (at after fs) st before (inner ++ tail) rest p (value_begins inner tail v)
      (pass_then (at value gs) (at after gs) (at after fs) (inner ++ tail) tail rest (value_runs inner v gs tail (ends_run w (44 ∷ left) q (inr (inl refl))))
      (after_pass σ (at after fs) gs w (44 ∷ left) rest q
      (pass_over (at after gs) (at value gs) (at after fs) (44 ∷ left) (44 ∷ []) left rest refl refl (values_run more l fs (at value gs) (value_starts gs) rest)))))

  members_run : (b : List ℕ) → Members b → (fs : List Frame) (σ : State) → Starts σ (at key (machine.object ∷ fs)) → (rest : List ℕ) → Passed σ (at after fs) (b ++ 125 ∷ rest) rest
  members_run b (loose.last_member before name l r inner w _ p n is_l is_r v q e) fs σ st rest =
      let gs = machine.object ∷ fs in
      let tail = w ++ 125 ∷ rest in
      let u = l ++ 58 ∷ (r ++ (inner ++ tail)) in
      let parts : (before ++ (name ++ (l ++ 58 ∷ (r ++ (inner ++ w))))) ++ 125 ∷ rest ≡ before ++ (name ++ u) = simp append_assoc in
      subst (λ x. Passed σ (at after fs) x rest) (sym (ap (λ x. x ++ 125 ∷ rest) e ∙ parts))
      (starts_pass σ (at key gs) (at after fs) st before (name ++ u) rest p (string_begins name u n)
      (pass_over (at key gs) (at colon gs) (at after fs) (name ++ u) name u rest refl (string_run true gs (at key gs) refl name n)
      (pass_over (at colon gs) (at colon gs) (at after fs) u l (58 ∷ (r ++ (inner ++ tail))) rest refl (run_spaces (at colon gs) l (loops (at colon gs) refl refl refl refl) is_l)
      (pass_over (at colon gs) (at value gs) (at after fs) (58 ∷ (r ++ (inner ++ tail))) (58 ∷ []) (r ++ (inner ++ tail)) rest refl refl
      (pass_over (at value gs) (at value gs) (at after fs) (r ++ (inner ++ tail)) r (inner ++ tail) rest refl (run_spaces (at value gs) r (value_starts gs).spaces is_r)
      (pass_then (at value gs) (at after gs) (at after fs) (inner ++ tail) tail rest (value_runs inner v gs tail (ends_run w (125 ∷ rest) q (inr (inr (inr refl)))))
      (after_pass σ (at after fs) gs w (125 ∷ rest) rest q (pass_front (at after gs) (at after fs) (125 ∷ []) rest refl))))))))
  members_run b (loose.next_member before name l r inner w more _ p n is_l is_r v q m e) fs σ st rest =
      let gs = machine.object ∷ fs in
      let left = more ++ 125 ∷ rest in
      let tail = w ++ 44 ∷ left in
      let u = l ++ 58 ∷ (r ++ (inner ++ tail)) in
      let parts : (before ++ (name ++ (l ++ 58 ∷ (r ++ (inner ++ (w ++ 44 ∷ more)))))) ++ 125 ∷ rest ≡ before ++ (name ++ u) = simp append_assoc in
      subst (λ x. Passed σ (at after fs) x rest) (sym (ap (λ x. x ++ 125 ∷ rest) e ∙ parts))
      (starts_pass σ (at key gs) (at after fs) st before (name ++ u) rest p (string_begins name u n)
      (pass_over (at key gs) (at colon gs) (at after fs) (name ++ u) name u rest refl (string_run true gs (at key gs) refl name n)
      (pass_over (at colon gs) (at colon gs) (at after fs) u l (58 ∷ (r ++ (inner ++ tail))) rest refl (run_spaces (at colon gs) l (loops (at colon gs) refl refl refl refl) is_l)
      (pass_over (at colon gs) (at value gs) (at after fs) (58 ∷ (r ++ (inner ++ tail))) (58 ∷ []) (r ++ (inner ++ tail)) rest refl refl
      (pass_over (at value gs) (at value gs) (at after fs) (r ++ (inner ++ tail)) r (inner ++ tail) rest refl (run_spaces (at value gs) r (value_starts gs).spaces is_r)
      (pass_then (at value gs) (at after gs) (at after fs) (inner ++ tail) tail rest (value_runs inner v gs tail (ends_run w (44 ∷ left) q (inr (inl refl))))
      (after_pass σ (at after fs) gs w (44 ∷ left) rest q
      (pass_over (at after gs) (at key gs) (at after fs) (44 ∷ left) (44 ∷ []) left rest refl refl (members_run more m fs (at key gs) (key_starts gs) rest)))))))))

-- ---- the whole text

pub loose_runs : (b : List ℕ) → loose.IsText b → machine.IsText b
loose_runs b is =
    let tail = is.after ++ 32 ∷ [] in
    let s = is.inner ++ tail in
    let p = value_runs is.inner is.value [] tail (ends_run is.after (32 ∷ []) is.is_after (inl (inl refl))) in
    let parts : (is.before ++ (is.inner ++ is.after)) ++ 32 ∷ [] ≡ is.before ++ s = simp append_assoc in
    let whole : b ++ 32 ∷ [] ≡ is.before ++ s = ap (λ x. x ++ 32 ∷ []) is.text ∙ parts in
    ap (run start) whole ∙ run-append start start is.before s (run_spaces start is.before (loops start refl refl refl refl) is.is_before)
    ∙ ap (run start) p.split ∙ run-append start p.place p.front tail p.runs ∙ run_like p.place (at after []) is.after p.like
    ∙ run_spaces (at after []) tail (after_loops []) (all-append IsSpace is.after (32 ∷ []) is.is_after (inl refl, tt))
