-- The machine beside the reading: values and the whole text.
use Rattle.std.proofs.Common.{◌≡◌, ℕ, zero, suc, ◌-◌, ◌<◌, ◌≤◌, ◌≢◌, Bool, true, false, cond, ◌==◌, List, [], ◌∷◌, ◌++◌, length, Option, Some, None, Result, Ok, Err, refl, sym, ap, ◌∙◌, subst, eqb-true, length-append, arith}
use Rattle.std.proofs.lemmas.Bool.Decides.{nat_tests}
use Rattle.std.specs.Prelude.{codes}
use Rattle.jtext.specs.declared.json.Json.{Json}
use Rattle.jtext.specs.declared.json.Json.TheVariants as json
use Rattle.jtext.specs.declared.fault.Fault.{Fault}
use Rattle.jtext.specs.declared.fault.Fault.TheVariants.{NoMemory, Bad, Deep, Repeated, Lone}
use Rattle.jtext.specs.declared.fault.JsonFault.{JsonFault}
use Rattle.jtext.specs.Readings.{Reading, ◌>>=◌, strip_word}
use Rattle.jtext.specs.Strings.{string_at}
use Rattle.jtext.specs.Gives.{Fails, fault_within}
use Rattle.jtext.specs.Reading.{is_space, skip_spaces, word_at, list_at, item_at, field_at, key_at, after_key, colon_at, has_key, as_array, as_object, as_string, value_at, document_at, at_end, number_to, after_number}
use Rattle.jtext.proofs.Machine as machine
use Rattle.jtext.proofs.Machine.{Frame, at, value, first, first_key, key, colon, after, text, word, step, start, Stops, Follows, AtPlace}
use Rattle.jtext.proofs.Viable.{begun, none_goes_on}
use Rattle.jtext.proofs.Binds.{test, bind_ok}
use Rattle.jtext.proofs.Turns.{arrays_at, objects_at, value_is}
use Rattle.jtext.proofs.StringLaws.{strip_one, pair_is}
use Rattle.jtext.proofs.Series.{Begins}
use Rattle.jtext.proofs.Documents.{value_sound, begins, key_sound}
use Rattle.jtext.proofs.Follows.{over, one, byte, refused, stays, as_like, bind, spaces, loops, after_loops, Bare, skipped_bare, list_follow, strip_none, value_open, key_open, colon_open}
use Rattle.jtext.proofs.Parts.{word_follow, number_follow}
use Rattle.jtext.proofs.Escapes.{string_follow, itself}

-- a value takes a byte at least
value_shortens : (n : ℕ) (s : List ℕ) (p : Json × List ℕ) → value_at n s ≡ Ok p → length p.1 < length s
value_shortens n s p e =
    let ((front, is, split), deep) = value_sound n s p e in
    some front p.1 s split (begins p.0 front [] is)
  where
    some : (front rest s : List ℕ) → s ≡ front ++ rest → Begins (front ++ []) → length rest < length s
    some [] rest s e b = absurd b
    some (c ∷ cs) rest s e b = omega (arith, ap length e, length-append cs rest)

key_shortens : (taken : List ℕ → Bool) (s : List ℕ) (k : List ℕ × List ℕ) → key_at taken s ≡ Ok k → length k.1 ≤ length s
key_shortens taken s k e =
    let r = key_sound taken s k e in
    omega (arith, ap length r.text, length-append r.name (r.before ++ 58 ∷ (r.after ++ k.1)), length-append r.before (58 ∷ (r.after ++ k.1)), length-append r.after k.1)

-- ---- keys

colon_follow : (fs : List Frame) (k s : List ℕ) (o : Option (List ℕ)) → Bare s → strip_word (codes ":") s ≡ o → Follows (at colon fs) (at value fs) s (colon_at k s o)
colon_follow fs k s (Some rest) bare e =
    over (at colon fs) (at value fs) (at value fs) s (58 ∷ []) rest (Ok (k, skip_spaces rest)) (strip_one 58 s rest e) (one (at colon fs) (at value fs) 58 refl)
    (spaces (at value fs) (at value fs) rest (Ok (k, skip_spaces rest)) (loops (at value fs) refl refl refl refl) (stays (at value fs) (at value fs) (k, skip_spaces rest) (itself (at value fs) (skip_spaces rest))))
colon_follow fs k [] None bare e = refused (List ℕ) (at colon fs) (at value fs) [] (colon_open fs)
colon_follow fs k (c ∷ cs) None bare e =
    let t : (c == 58) ≡ false = differs c (strip_none 58 c cs e) in
    refused (List ℕ) (at colon fs) (at value fs) (c ∷ cs) (ap (λ b. cond b (Some (at value fs)) (cond (is_space c) (Some (at colon fs)) None)) t ∙ ap (λ b. cond b (Some (at colon fs)) None) bare)
  where
    differs : (c : ℕ) → c ≢ 58 → (c == 58) ≡ false
    differs c h = grind (arith, nat_tests)

after_key_follow : (fs : List Frame) (k s : List ℕ) → Follows (at colon fs) (at value fs) s (after_key k s)
after_key_follow fs k s = spaces (at colon fs) (at value fs) s (after_key k s) (loops (at colon fs) refl refl refl refl) (colon_follow fs k (skip_spaces s) _ (skipped_bare s) refl)

no_quote : (fs : List Frame) (s : List ℕ) → Bare s → (c : ℕ) (cs : List ℕ) → s ≡ c ∷ cs → (c == 34) ≡ false → step (at key fs) c ≡ None
no_quote fs s bare c cs e t =
    let plain : is_space c ≡ false = subst Bare e bare in
    ap (λ b. cond b (Some (at (text true) fs)) (cond (is_space c) (Some (at key fs)) None)) t ∙ ap (λ b. cond b (Some (at key fs)) None) plain

key_follow : (fs : List Frame) (taken : List ℕ → Bool) (s : List ℕ) → Bare s → Follows (at key fs) (at value fs) s (key_at taken s)
key_follow fs taken s bare = go (string_at s) (string_follow true fs (at key fs) refl (key_open fs) s (no_quote fs s bare))
  where
    go : (r : Reading (List ℕ)) → Follows (at key fs) (at colon fs) s r → Follows (at key fs) (at value fs) s (r >>= (λ p. cond (taken p.0) (Err (Repeated (length s))) (after_key p.0 p.1)))
    go (Err g) f = f
    go (Ok p) f =
        test (λ b. Follows (at key fs) (at value fs) s (cond b (Err (Repeated (length s))) (after_key p.0 p.1))) (taken p.0)
        (λ e. record { front = []; rest = s; place = at key fs; split = refl; runs = refl; stands = refl })
        (λ e. over (at key fs) f.place (at value fs) s f.front p.1 (after_key p.0 p.1) f.split f.runs (as_like f.place (at colon fs) (at value fs) p.1 (after_key p.0 p.1) f.like (after_key_follow fs p.0 p.1)))

-- ---- values

module _ (n : ℕ) (follows : (fs : List Frame) (s : List ℕ) → Bare s → Follows (at value fs) (at after fs) s (value_at n s)) where
  item_follow : (fs : List Frame) (found : List Json) (s : List ℕ) → Bare s → Follows (at value (machine.list ∷ fs)) (at after (machine.list ∷ fs)) s (item_at (value_at n) found s)
  item_follow fs found s bare = follows (machine.list ∷ fs) s bare

  key_bare : (taken : List ℕ → Bool) (s : List ℕ) (k : List ℕ × List ℕ) → key_at taken s ≡ Ok k → Bare k.1
  key_bare taken s k e = let r = key_sound taken s k e in subst Bare r.skipped (skipped_bare r.before_value)

  field_follow : (fs : List Frame) (found : List (List ℕ × Json)) (s : List ℕ) → Bare s → Follows (at key (machine.object ∷ fs)) (at after (machine.object ∷ fs)) s (field_at (value_at n) found s)
  field_follow fs found s bare =
      let gs = machine.object ∷ fs in
      bind (at key gs) (at value gs) (at after gs) s (key_at (has_key found) s) _ (key_follow gs (has_key found) s bare)
      (λ k e. bind (at value gs) (at after gs) (at after gs) k.1 (value_at n k.1) _ (follows gs k.1 (key_bare (has_key found) s k e))
      (λ v g. stays {A = List ℕ × Json} (at after gs) (at after gs) ((k.0, v.0), v.1) (itself (at after gs) v.1)))

  field_shortens : (found : List (List ℕ × Json)) (s : List ℕ) (p : (List ℕ × Json) × List ℕ) → field_at (value_at n) found s ≡ Ok p → length p.1 < length s
  field_shortens found s p e =
      let (k, is_k, e1) = bind_ok (key_at (has_key found) s) _ p e in
      let (v, is_v, e2) = bind_ok (value_at n k.1) _ p e1 in
      let same = pair_is (k.0, v.0) v.1 p e2 in
      let rest : v.1 ≡ p.1 = ap (λ q. q.1) same in
      omega (arith, key_shortens (has_key found) s k is_k, value_shortens n k.1 v is_v, ap length rest)

  arrays_follow : (fs : List Frame) (s : List ℕ) → Follows (at first (machine.list ∷ fs)) (at after fs) s (list_at (codes "]") (item_at (value_at n)) s)
  arrays_follow fs s = list_follow machine.list fs (item_at (value_at n)) (item_follow fs) (λ found t p e. value_shortens n t p e) s

  objects_follow : (fs : List Frame) (s : List ℕ) → Follows (at first_key (machine.object ∷ fs)) (at after fs) s (list_at (codes "}") (field_at (value_at n)) s)
  objects_follow fs s = list_follow machine.object fs (field_at (value_at n)) (field_follow fs) field_shortens s

-- at a byte, given how the machine goes between brackets
at_byte_follow : (n : ℕ) (fs : List Frame) (c : ℕ) (cs : List ℕ) → is_space c ≡ false
    → (c ≡ 91 → Follows (at value fs) (at after fs) (c ∷ cs) (as_array (arrays_at n cs))) → (c ≡ 123 → Follows (at value fs) (at after fs) (c ∷ cs) (as_object (objects_at n cs)))
    → Follows (at value fs) (at after fs) (c ∷ cs) (value_at n (c ∷ cs))
at_byte_follow n fs c cs bare arrays objects =
    let s = c ∷ cs in
    let σ = at value fs in
    let κ = at after fs in
    let F = λ (r : Reading Json). Follows σ κ s r in
    let r6 = number_to s (after_number s) in
    let r5 = λ (b : Bool). cond b (as_object (objects_at n cs)) r6 in
    let r4 = λ (b : Bool). cond b (as_array (arrays_at n cs)) (r5 (c == 123)) in
    let r3 = λ (b : Bool). cond b (as_string (string_at s)) (r4 (c == 91)) in
    let r2 = λ (b : Bool). cond b (word_at (codes "false") (json.Bool false) s (strip_word (codes "false") s)) (r3 (c == 34)) in
    let r1 = λ (b : Bool). cond b (word_at (codes "true") (json.Bool true) s (strip_word (codes "true") s)) (r2 (c == 102)) in
    let r0 = λ (b : Bool). cond b (word_at (codes "null") json.Null s (strip_word (codes "null") s)) (r1 (c == 116)) in
    subst F (sym (value_is n s))
    (test (λ b. F (r0 b)) (c == 110) (λ e. a_word fs 110 (codes "ull") json.Null c cs (eqb-true c 110 e) refl)
    (λ e0. test (λ b. F (r1 b)) (c == 116) (λ e. a_word fs 116 (codes "rue") (json.Bool true) c cs (eqb-true c 116 e) refl)
    (λ e1. test (λ b. F (r2 b)) (c == 102) (λ e. a_word fs 102 (codes "alse") (json.Bool false) c cs (eqb-true c 102 e) refl)
    (λ e2. test (λ b. F (r3 b)) (c == 34) (λ e. a_string fs c cs (eqb-true c 34 e))
    (λ e3. test (λ b. F (r4 b)) (c == 91) (λ e. arrays (eqb-true c 91 e))
    (λ e4. test (λ b. F (r5 b)) (c == 123) (λ e. objects (eqb-true c 123 e))
    (λ e5. number_follow fs c cs (record { n = unequal c 110 e0; t = unequal c 116 e1; f = unequal c 102 e2; quote = unequal c 34 e3; list = unequal c 91 e4; object = unequal c 123 e5; space = bare }))))))))
  where
    unequal : (c n : ℕ) → (c == n) ≡ false → c ≢ n
    unequal c n e = grind (arith, nat_tests)

    a_word : (fs : List Frame) (n : ℕ) (ns : List ℕ) (v : Json) (c : ℕ) (cs : List ℕ) → c ≡ n → step (at value fs) n ≡ Some (at (word ns) fs) → Follows (at value fs) (at after fs) (c ∷ cs) (word_at (n ∷ ns) v (c ∷ cs) (strip_word (n ∷ ns) (c ∷ cs)))
    a_word fs n ns v c cs e opens =
        as_like (at value fs) (at (word (n ∷ ns)) fs) (at after fs) (c ∷ cs) _ (alike fs n ns c e opens) (word_follow fs (n ∷ ns) (c ∷ cs) v _ refl)
      where
        alike : (fs : List Frame) (n : ℕ) (ns : List ℕ) (c : ℕ) → c ≡ n → step (at value fs) n ≡ Some (at (word ns) fs) → step (at value fs) c ≡ step (at (word (n ∷ ns)) fs) c
        alike fs n ns c e opens = let t : (c == n) ≡ true = grind (arith, nat_tests) in ap (step (at value fs)) e ∙ opens ∙ sym (ap (λ b. cond b (Some (at (word ns) fs)) None) t)

    a_string : (fs : List Frame) (c : ℕ) (cs : List ℕ) → c ≡ 34 → Follows (at value fs) (at after fs) (c ∷ cs) (as_string (string_at (c ∷ cs)))
    a_string fs c cs e =
        bind (at value fs) (at after fs) (at after fs) (c ∷ cs) (string_at (c ∷ cs)) _ (string_follow false fs (at value fs) refl (value_open fs) (c ∷ cs) (λ d ds f t. absurd (quote c d cs ds e f t)))
        (λ p g. stays (at after fs) (at after fs) (json.Str p.0, p.1) (itself (at after fs) p.1))
      where
        quote : (c d : ℕ) (cs ds : List ℕ) → c ≡ 34 → c ∷ cs ≡ d ∷ ds → (d == 34) ≡ false → ⊥
        quote c d cs ds e f t = let same : c ≡ d = cc in let u : (d == 34) ≡ true = grind (arith, nat_tests) in let v : true ≡ false = sym u ∙ t in cc

deep_follow : (fs : List Frame) (c : ℕ) (cs : List ℕ) → Follows {A = Json} (at value fs) (at after fs) (c ∷ cs) (Err (Deep (suc (length cs))))
deep_follow fs c cs = record { front = []; rest = c ∷ cs; place = at value fs; split = refl; runs = refl; stands = refl }

pub value_follow : (n : ℕ) (fs : List Frame) (s : List ℕ) → Bare s → Follows (at value fs) (at after fs) s (value_at n s)
value_follow n fs [] bare = subst (Follows {A = Json} (at value fs) (at after fs) []) (sym (value_is n [])) (refused Json (at value fs) (at after fs) [] (value_open fs))
value_follow zero fs (c ∷ cs) bare = at_byte_follow zero fs c cs bare (λ e. deep_follow fs c cs) (λ e. deep_follow fs c cs)
value_follow (suc n) fs (c ∷ cs) bare =
    at_byte_follow (suc n) fs c cs bare
    (λ e. byte (at value fs) (at first (machine.list ∷ fs)) (at after fs) c cs (as_array (arrays_at (suc n) cs)) (ap (step (at value fs)) e)
    (bind (at first (machine.list ∷ fs)) (at after fs) (at after fs) cs (arrays_at (suc n) cs) _ (arrays_follow n (value_follow n) fs cs) (λ p g. stays (at after fs) (at after fs) (json.Arr p.0, p.1) (itself (at after fs) p.1))))
    (λ e. byte (at value fs) (at first_key (machine.object ∷ fs)) (at after fs) c cs (as_object (objects_at (suc n) cs)) (ap (step (at value fs)) e)
    (bind (at first_key (machine.object ∷ fs)) (at after fs) (at after fs) cs (objects_at (suc n) cs) _ (objects_follow n (value_follow n) fs cs) (λ p g. stays (at after fs) (at after fs) (json.Obj p.0, p.1) (itself (at after fs) p.1))))

-- ---- the whole text

document_stops : (n : ℕ) (s : List ℕ) (f : Fault) → document_at n s ≡ Err f → Stops start s f
document_stops n s f e = go (value_at n (skip_spaces s)) (spaces (at value []) (at after []) s (value_at n (skip_spaces s)) (loops (at value []) refl refl refl refl) (value_follow n [] (skip_spaces s) (skipped_bare s))) e
  where
    same_fault : (f g : Fault) → ◌≡◌ {A = Result Json Fault} (Err f) (Err g) → f ≡ g
    same_fault f g e = cc

    ended : (t : Json) (s u : List ℕ) → s ≡ u → Bare u → at_end t u ≡ Err f → Stops (at after []) s f
    ended t s [] is bare e = absurd (never t f e)
      where
        never : (t : Json) (f : Fault) → ◌≡◌ {A = Result Json Fault} (Ok t) (Err f) → ⊥
        never t f e = cc
    ended t s (c ∷ cs) is bare e =
        let here : Stops (at after []) (c ∷ cs) (Bad (suc (length cs))) = refused Json (at after []) (at after []) (c ∷ cs) (ap (λ b. cond b (Some (at after [])) None) bare) in
        subst (λ x. Stops (at after []) x f) (sym is) (subst (Stops (at after []) (c ∷ cs)) (same_fault (Bad (suc (length cs))) f e) here)

    go : (r : Reading Json) → Follows start (at after []) s r → (r >>= (λ p. at_end p.0 (skip_spaces p.1))) ≡ Err f → Stops start s f
    go (Err g) h e = subst (Stops start s) (same_fault g f e) h
    go (Ok p) h e =
        let past : Stops (at after []) p.1 f = spaces {A = Json} (at after []) (at after []) p.1 (Err f) (after_loops []) (ended p.0 (skip_spaces p.1) (skip_spaces p.1) refl (skipped_bare p.1) e) in
        over {A = Json} start h.place (at after []) s h.front p.1 (Err f) h.split h.runs (as_like {A = Json} h.place (at after []) (at after []) p.1 (Err f) h.like past)

front_length : (s front rest : List ℕ) (n : ℕ) → s ≡ front ++ rest → length rest ≡ n → length front ≡ length s - n
front_length s front rest n e is = omega (arith, ap length e, length-append front rest, is)

pub placed : (n : ℕ) (b s : List ℕ) (f : Fault) (g : JsonFault) → s ≡ b → Fails f (document_at n s) → g ≡ fault_within f (length s) → AtPlace b (Err g)
placed n b s NoMemory g e fails is = subst (λ x. AtPlace b (Err x)) (sym is) tt
placed n b s (Bad k) g e fails is =
    let h = document_stops n s (Bad k) fails in
    subst (λ x. AtPlace b (Err x)) (sym is) (record { front = h.front; rest = h.rest; split = sym e ∙ h.split; here = front_length s h.front h.rest k h.split h.stands.0; begun = begun h.front h.place h.runs; ends = none_goes_on h.front h.rest h.place h.runs h.stands.1 })
placed n b s (Deep k) g e fails is =
    let h = document_stops n s (Deep k) fails in
    subst (λ x. AtPlace b (Err x)) (sym is) (record { front = h.front; rest = h.rest; split = sym e ∙ h.split; here = front_length s h.front h.rest k h.split h.stands; begun = begun h.front h.place h.runs })
placed n b s (Repeated k) g e fails is =
    let h = document_stops n s (Repeated k) fails in
    subst (λ x. AtPlace b (Err x)) (sym is) (record { front = h.front; rest = h.rest; split = sym e ∙ h.split; here = front_length s h.front h.rest k h.split h.stands; begun = begun h.front h.place h.runs })
placed n b s (Lone k) g e fails is =
    let h = document_stops n s (Lone k) fails in
    subst (λ x. AtPlace b (Err x)) (sym is) (record { front = h.front; rest = h.rest; split = sym e ∙ h.split; here = front_length s h.front h.rest k h.split h.stands; begun = begun h.front h.place h.runs })
