-- What is read is spelled so and nests no deeper, and what is spelled so is read.
use Rattle.std.proofs.Common.{◌≡◌, ℕ, zero, suc, ◌-◌, ◌≤◌, Bool, true, false, ◌==◌, List, [], ◌∷◌, ◌++◌, map, length, take, Option, Some, None, Result, Ok, Err, inl, inr, refl, sym, ap, ◌∙◌, subst, append_assoc, eqb-true, arith}
use Rattle.std.proofs.lemmas.List.{append-nil}
use Rattle.std.specs.Prelude.{codes}
use Rattle.std.specs.List.{AllByRecursion}
use Rattle.std.specs.Str.{IsUtf8}
use Rattle.jtext.specs.declared.json.Json.{Json}
use Rattle.jtext.specs.declared.json.Json.TheVariants as json
use Rattle.jtext.specs.declared.fault.Fault.{Fault}
use Rattle.jtext.specs.declared.fault.Fault.TheVariants.{Bad, Deep, Repeated}
use Rattle.jtext.specs.Readings.{◌>>=◌, strip_word}
use Rattle.jtext.specs.Strings.{Quoted, string_at}
use Rattle.jtext.specs.Grammar.{Spells, Spelled, null, yes, no, number, string, no_items, array, no_pairs, object, Items, last_item, next_item, Pairs, last_pair, next_pair, Pair, pair, Distinct, AreSpaces, Passes}
use Rattle.jtext.specs.Number.{IsNumber}
use Rattle.jtext.specs.Depth.{depth, highest, highest_of_pairs}
use Rattle.jtext.specs.Reading.{skip_spaces, word_at, list_at, item_at, field_at, key_at, after_key, colon_at, has_key, as_array, as_object, as_string, value_at, document_at, at_end, word_stop, number_stop, number_to, after_number}
use Rattle.jtext.proofs.Binds.{bind_ok, chosen}
use Rattle.jtext.proofs.Fronts.{front_text}
use Rattle.jtext.proofs.NumberRuns.{Stops, number_ends, number_first}
use Rattle.jtext.proofs.NumberSound.{number_sound}
use Rattle.jtext.proofs.StringLaws.{strip_one, pair_is, no_ok, string_sound, string_complete}
use Rattle.jtext.proofs.Depths.{depth-Null, depth-Bool, depth-Num, depth-Str, depth-Arr, depth-Obj, highest-le, pairs-le, highest-all, pairs-all}
use Rattle.jtext.proofs.Keys.{all-push, all-at, distinct-push, distinct-free, strip_sound}
use Rattle.jtext.proofs.Turns.{arrays_at, objects_at, value_is, value_null, value_true, value_false, value_string, value_array, value_object, value_other, key_free}
use Rattle.jtext.proofs.Series.{Series, last, next, spaces_sound, Ends, Begins, skip_run, skip_none, reach, list_sound, list_complete, empty_complete}

pub to_items : (xs : List Json) (b : List ℕ) → Series Spelled xs b → Items xs b
to_items _ b (last x u v w _ p q r e) = last_item x u v w b p q r e
to_items _ b (next x xs u v w m _ p q r s e) = next_item x xs u v w m b p q r (to_items xs m s) e

pub of_items : (xs : List Json) (b : List ℕ) → Items xs b → Series Spelled xs b
of_items _ b (last_item x u v w _ p q r e) = last x u v w b p q r e
of_items _ b (next_item x xs u v w m _ p q r s e) = next x xs u v w m b p q r (of_items xs m s) e

pub to_pairs : (xs : List (List ℕ × Json)) (b : List ℕ) → Series Pair xs b → Pairs xs b
to_pairs _ b (last x u v w _ p q r e) = last_pair x u v w b p q r e
to_pairs _ b (next x xs u v w m _ p q r s e) = next_pair x xs u v w m b p q r (to_pairs xs m s) e

pub of_pairs : (xs : List (List ℕ × Json)) (b : List ℕ) → Pairs xs b → Series Pair xs b
of_pairs _ b (last_pair x u v w _ p q r e) = last x u v w b p q r e
of_pairs _ b (next_pair x xs u v w m _ p q r s e) = next x xs u v w m b p q r (of_pairs xs m s) e

-- ---- what is read

-- what reading answers of a value
abbrev pub Reads : ℕ → Json × List ℕ → List ℕ → Type 0
Reads n p s = Passes (Spelled p.0) s p.1 × (depth p.0 ≤ n)

Shallow : ℕ → List Json → Type 0
Shallow n xs = AllByRecursion (λ j. depth j ≤ n) xs

abbrev pub Flat : ℕ → List (List ℕ × Json) → Type 0
Flat n ps = Distinct ps × AllByRecursion (λ p. depth p.1 ≤ n) ps

word_sound : (n : ℕ) (name : List ℕ) (value : Json) (s : List ℕ) (o : Option (List ℕ)) (p : Json × List ℕ) → Spelled value name → depth value ≡ 0 → strip_word name s ≡ o → word_at name value s o ≡ Ok p → Reads n p s
word_sound n name value s None p is flat at e = absurd (no_ok (Bad (word_stop name s)) p e)
word_sound n name value s (Some rest) p is flat at e =
    let same = pair_is value rest p e in
    ((name, subst (λ q. Spelled q.0 name) same is, strip_sound name s rest at ∙ ap (λ q. name ++ q.1) same), subst (λ q. depth q.0 ≤ n) same (omega (arith, flat)))

number_read : (n : ℕ) (s : List ℕ) (o : Option (List ℕ)) (p : Json × List ℕ) → after_number s ≡ o → number_to s o ≡ Ok p → Reads n p s
number_read n s None p at e = absurd (no_ok (Bad (number_stop s)) p e)
number_read n s (Some rest) p at e =
    let text = take (length s - length rest) s in
    let same = pair_is (json.Num text) rest p e in
    let (front, is, split) = number_sound s rest at in
    let here : text ≡ front = front_text s front rest split in (
      (front, subst (λ q. Spelled q.0 front) same (subst (λ x. Spelled (json.Num x) front) (sym here) (number front is)), split ∙ ap (λ q. front ++ q.1) same),
      subst (λ q. depth q.0 ≤ n) same (omega (arith, depth-Num text)),
    )

string_read : (n : ℕ) (s : List ℕ) (p : Json × List ℕ) → as_string (string_at s) ≡ Ok p → Reads n p s
string_read n s p e =
    let (q, is_q, e1) = bind_ok (string_at s) _ p e in
    let same = pair_is (json.Str q.0) q.1 p e1 in
    let (front, is, split) = string_sound s q is_q in
    ((front, subst (λ q. Spelled q.0 front) same (string q.0 front is), split ∙ ap (λ q. front ++ q.1) same), subst (λ q. depth q.0 ≤ n) same (omega (arith, depth-Str q.0)))

-- a key, as it was read
pub record KeyRead (taken : List ℕ → Bool) (s : List ℕ) (k : List ℕ × List ℕ) : Type 0 where
  pub name : List ℕ
  pub before : List ℕ
  pub after : List ℕ
  pub is_name : Quoted k.0 name
  pub is_before : AreSpaces before
  pub is_after : AreSpaces after
  pub free : taken k.0 ≡ false
  pub before_value : List ℕ
  pub skipped : skip_spaces before_value ≡ k.1
  pub text : s ≡ name ++ (before ++ 58 ∷ (after ++ k.1))

colon_sound : (key s : List ℕ) (o : Option (List ℕ)) (k : List ℕ × List ℕ) → strip_word (codes ":") s ≡ o → colon_at key s o ≡ Ok k → (rest : List ℕ) × (s ≡ 58 ∷ rest) × (key ≡ k.0) × (skip_spaces rest ≡ k.1)
colon_sound key s None k at e = absurd (no_ok (Bad (length s)) k e)
colon_sound key s (Some rest) k at e = let same = pair_is key (skip_spaces rest) k e in (rest, strip_one 58 s rest at, ap (λ q. q.0) same, ap (λ q. q.1) same)

pub key_sound : (taken : List ℕ → Bool) (s : List ℕ) (k : List ℕ × List ℕ) → key_at taken s ≡ Ok k → KeyRead taken s k
key_sound taken s k e =
    let (p, is_p, e1) = bind_ok (string_at s) _ k e in
    elim (chosen (taken p.0) (Err (Repeated (length s))) (after_key p.0 p.1) (Ok k) e1) [
      | inl h ↦ absurd (no_ok (Repeated (length s)) k h.1)
      | inr h ↦
          let (name, is_name, at) = string_sound s p is_p in
          let (rest, colon, same, skipped) = colon_sound p.0 (skip_spaces p.1) _ k refl h.1 in
          let v = spaces_sound p.1 in
          let w = spaces_sound rest in
          record {
            name = name;
            before = v.0;
            after = w.0;
            is_name = subst (λ x. Quoted x name) same is_name;
            is_before = v.1;
            is_after = w.1;
            free = subst (λ x. taken x ≡ false) same h.0;
            before_value = rest;
            skipped = skipped;
            text = at ∙ ap (λ x. name ++ x) (v.2 ∙ ap (λ x. v.0 ++ x) (colon ∙ ap (λ x. 58 ∷ x) (w.2 ∙ ap (λ x. w.0 ++ x) skipped)));
          }
    ]

module _ (n : ℕ) (value_reads : (s : List ℕ) (p : Json × List ℕ) → value_at n s ≡ Ok p → Reads n p s) where
  array_reads : (s : List ℕ) (p : Json × List ℕ) → as_array (list_at (codes "]") (item_at (value_at n)) s) ≡ Ok p → Reads (suc n) p (91 ∷ s)
  array_reads s p e =
      let (q, is_q, e1) = bind_ok (list_at (codes "]") (item_at (value_at n)) s) _ p e in
      let same = pair_is (json.Arr q.0) q.1 p e1 in
      let (found, deep) = list_sound 93 (item_at (value_at n)) Spelled (AllByRecursion (λ j. depth j ≤ n))
      (λ found t r good is. let v = value_reads t r is in (v.0, all-push (λ j. depth j ≤ n) found r.0 good v.1)) s q tt is_q in
      let (front, (inner, which, whole), split) = found in
      let spelled : Spelled (json.Arr q.0) (91 ∷ front) = elim which [
        | inl h ↦ subst (λ xs. Spelled (json.Arr xs) (91 ∷ front)) (sym h.0) (no_items inner (91 ∷ front) h.1 (ap (λ x. 91 ∷ x) whole))
        | inr h ↦ array q.0 inner (91 ∷ front) (to_items q.0 inner h) (ap (λ x. 91 ∷ x) whole)
      ] in (
        (91 ∷ front, subst (λ q. Spelled q.0 (91 ∷ front)) same spelled, ap (λ x. 91 ∷ x) (split ∙ ap (λ q. front ++ q.1) same)),
        subst (λ q. depth q.0 ≤ suc n) same (omega (arith, depth-Arr q.0, highest-le n q.0 deep)),
      )

  pub field_reads : (found : List (List ℕ × Json)) (s : List ℕ) (p : (List ℕ × Json) × List ℕ) → Flat n found → field_at (value_at n) found s ≡ Ok p → Passes (Pair p.0) s p.1 × Flat n (found ++ p.0 ∷ [])
  field_reads found s p good e =
      let (k, is_k, e1) = bind_ok (key_at (has_key found) s) _ p e in
      let (v, is_v, e2) = bind_ok (value_at n k.1) _ p e1 in
      let key = key_sound (has_key found) s k is_k in
      let ((inner, is_inner, split), deep) = value_reads k.1 v is_v in
      let same = pair_is (k.0, v.0) v.1 p e2 in
      let front = key.name ++ (key.before ++ 58 ∷ (key.after ++ inner)) in
      let spelled : Pair (k.0, v.0) front = pair k.0 v.0 key.name key.before key.after inner front key.is_name key.is_before key.is_after is_inner refl in
      let text : s ≡ front ++ v.1 = key.text ∙ ap (λ x. key.name ++ (key.before ++ 58 ∷ (key.after ++ x))) split ∙ simp append_assoc in (
        (front, subst (λ q. Pair q.0 front) same spelled, text ∙ ap (λ q. front ++ q.1) same),
        subst (λ q. Flat n (found ++ q.0 ∷ [])) same (distinct-push found (k.0, v.0) good.0 key.free, all-push (λ p. depth p.1 ≤ n) found (k.0, v.0) good.1 deep),
      )

  object_reads : (s : List ℕ) (p : Json × List ℕ) → as_object (list_at (codes "}") (field_at (value_at n)) s) ≡ Ok p → Reads (suc n) p (123 ∷ s)
  object_reads s p e =
      let (q, is_q, e1) = bind_ok (list_at (codes "}") (field_at (value_at n)) s) _ p e in
      let same = pair_is (json.Obj q.0) q.1 p e1 in
      let (found, deep) = list_sound 125 (field_at (value_at n)) Pair (Flat n) (λ found t r good is. field_reads found t r good is) s q (tt, tt) is_q in
      let (front, (inner, which, whole), split) = found in
      let spelled : Spelled (json.Obj q.0) (123 ∷ front) = elim which [
        | inl h ↦ subst (λ xs. Spelled (json.Obj xs) (123 ∷ front)) (sym h.0) (no_pairs inner (123 ∷ front) h.1 (ap (λ x. 123 ∷ x) whole))
        | inr h ↦ object q.0 inner (123 ∷ front) (to_pairs q.0 inner h) deep.0 (ap (λ x. 123 ∷ x) whole)
      ] in (
        (123 ∷ front, subst (λ q. Spelled q.0 (123 ∷ front)) same spelled, ap (λ x. 123 ∷ x) (split ∙ ap (λ q. front ++ q.1) same)),
        subst (λ q. depth q.0 ≤ suc n) same (omega (arith, depth-Obj q.0, pairs-le n q.0 deep.1)),
      )

starts : (c n : ℕ) (cs : List ℕ) → (c == n) ≡ true → c ∷ cs ≡ n ∷ cs
starts c n cs e = ap (λ x. x ∷ cs) (eqb-true c n e)

deep_arrays : (cs : List ℕ) (p : Json × List ℕ) → as_array (arrays_at 0 cs) ≡ Ok p → ⊥
deep_arrays cs p e = no_ok (Deep (suc (length cs))) p e

deep_objects : (cs : List ℕ) (p : Json × List ℕ) → as_object (objects_at 0 cs) ≡ Ok p → ⊥
deep_objects cs p e = no_ok (Deep (suc (length cs))) p e

-- at a byte, given how what stands between brackets is read
at_byte_reads : (n c : ℕ) (cs : List ℕ) (p : Json × List ℕ) → (as_array (arrays_at n cs) ≡ Ok p → Reads n p (91 ∷ cs)) → (as_object (objects_at n cs) ≡ Ok p → Reads n p (123 ∷ cs)) → value_at n (c ∷ cs) ≡ Ok p → Reads n p (c ∷ cs)
at_byte_reads n c cs p arrays objects whole =
    let s = c ∷ cs in
    let e = sym (value_is n s) ∙ whole in
    elim (chosen (c == 110) (word_at (codes "null") json.Null s (strip_word (codes "null") s)) _ (Ok p) e) [
      | inl h ↦ word_sound n (codes "null") json.Null s _ p (null (codes "null") refl) depth-Null refl h.1
      | inr h1 ↦
          elim (chosen (c == 116) (word_at (codes "true") (json.Bool true) s (strip_word (codes "true") s)) _ (Ok p) h1.1) [
            | inl h ↦ word_sound n (codes "true") (json.Bool true) s _ p (yes (codes "true") refl) (depth-Bool true) refl h.1
            | inr h2 ↦
                elim (chosen (c == 102) (word_at (codes "false") (json.Bool false) s (strip_word (codes "false") s)) _ (Ok p) h2.1) [
                  | inl h ↦ word_sound n (codes "false") (json.Bool false) s _ p (no (codes "false") refl) (depth-Bool false) refl h.1
                  | inr h3 ↦
                      elim (chosen (c == 34) (as_string (string_at s)) _ (Ok p) h3.1) [
                        | inl h ↦ string_read n s p h.1
                        | inr h4 ↦
                            elim (chosen (c == 91) (as_array (arrays_at n cs)) _ (Ok p) h4.1) [
                              | inl h ↦ subst (Reads n p) (sym (starts c 91 cs h.0)) (arrays h.1)
                              | inr h5 ↦
                                  elim (chosen (c == 123) (as_object (objects_at n cs)) (number_to s (after_number s)) (Ok p) h5.1) [
                                    | inl h ↦ subst (Reads n p) (sym (starts c 123 cs h.0)) (objects h.1)
                                    | inr h ↦ number_read n s _ p refl h.1
                                  ]
                            ]
                      ]
                ]
          ]
    ]

pub value_sound : (n : ℕ) (s : List ℕ) (p : Json × List ℕ) → value_at n s ≡ Ok p → Reads n p s
value_sound n [] p e = absurd (no_ok (Bad 0) p (sym (value_is n []) ∙ e))
value_sound zero (c ∷ cs) p e = at_byte_reads zero c cs p (λ h. absurd (deep_arrays cs p h)) (λ h. absurd (deep_objects cs p h)) e
value_sound (suc n) (c ∷ cs) p e = at_byte_reads (suc n) c cs p (array_reads n (value_sound n) cs p) (object_reads n (value_sound n) cs p) e

end_sound : (t x : Json) (s : List ℕ) → at_end t s ≡ Ok x → (t ≡ x) × (s ≡ [])
end_sound t x [] e = (inside t x e, refl)
  where
    inside : (t x : Json) → ◌≡◌ {A = Result Json Fault} (Ok t) (Ok x) → t ≡ x
    inside t x e = cc
end_sound t x (c ∷ cs) e = absurd (never x (suc (length cs)) e)
  where
    never : (x : Json) (n : ℕ) → ◌≡◌ {A = Result Json Fault} (Err (Bad n)) (Ok x) → ⊥
    never x n e = cc

-- the whole text, but for its being UTF-8
pub document_sound : (n : ℕ) (b : List ℕ) (t : Json) → document_at n b ≡ Ok t
    → (before : List ℕ) × (inner : List ℕ) × (after : List ℕ) × AreSpaces before × Spelled t inner × AreSpaces after × (b ≡ before ++ (inner ++ after)) × (depth t ≤ n)
document_sound n b t e =
    let (p, is_p, e1) = bind_ok (value_at n (skip_spaces b)) _ t e in
    let ((inner, is, split), deep) = value_sound n (skip_spaces b) p is_p in
    let (same, none) = end_sound p.0 t (skip_spaces p.1) e1 in
    let v = spaces_sound b in
    let w = spaces_sound p.1 in
    let last : p.1 ≡ w.0 = w.2 ∙ ap (λ x. w.0 ++ x) none ∙ append-nil w.0 in
    (v.0, inner, w.0, v.1, subst (λ x. Spelled x inner) same is, w.1, v.2 ∙ ap (λ x. v.0 ++ x) (split ∙ ap (λ x. inner ++ x) last), subst (λ x. depth x ≤ n) same deep)

-- ---- what is spelled

stops : (s : List ℕ) → Ends s → Stops s
stops [] e = tt
stops (c ∷ cs) e = grind (arith, e)

number_complete : (n : ℕ) (b rest : List ℕ) → IsNumber b → Ends rest → value_at n (b ++ rest) ≡ Ok (json.Num b, rest)
number_complete n b rest is ends =
    let first = number_first b is in
    let here : b ++ rest ≡ first.0 ∷ (first.1 ++ rest) = ap (λ x. x ++ rest) first.2 in
    let other = value_other n (b ++ rest) (first.1 ++ rest) first.0 here (omega (arith, first.4)) (omega (arith, first.4)) (omega (arith, first.4)) (omega (arith, first.3)) (omega (arith, first.4)) (omega (arith, first.4)) in
    other ∙ ap (number_to (b ++ rest)) (number_ends b rest is (stops rest ends)) ∙ ap (λ x. Ok (json.Num x, rest)) (front_text (b ++ rest) b rest refl)

pub quote_begins : (text b rest : List ℕ) → Quoted text b → Begins (b ++ rest)
quote_begins text b rest (inner, letters, e) = subst (λ x. Begins (x ++ rest)) (sym e) (refl, omega arith, omega arith)

pub begins : (t : Json) (b rest : List ℕ) → Spelled t b → Begins (b ++ rest)
begins _ b rest (null _ e) = subst (λ x. Begins (x ++ rest)) (sym e) (refl, omega arith, omega arith)
begins _ b rest (yes _ e) = subst (λ x. Begins (x ++ rest)) (sym e) (refl, omega arith, omega arith)
begins _ b rest (no _ e) = subst (λ x. Begins (x ++ rest)) (sym e) (refl, omega arith, omega arith)
begins _ b rest (number _ is) =
    let first = number_first b is in
    subst (λ x. Begins (x ++ rest)) (sym first.2) (grind (arith, first.3, first.4), omega (arith, first.4), omega (arith, first.4))
begins _ b rest (string text _ quoted) = quote_begins text b rest quoted
begins _ b rest (no_items inner _ spaces e) = subst (λ x. Begins (x ++ rest)) (sym e) (refl, omega arith, omega arith)
begins _ b rest (array xs inner _ items e) = subst (λ x. Begins (x ++ rest)) (sym e) (refl, omega arith, omega arith)
begins _ b rest (no_pairs inner _ spaces e) = subst (λ x. Begins (x ++ rest)) (sym e) (refl, omega arith, omega arith)
begins _ b rest (object ps inner _ pairs distinct e) = subst (λ x. Begins (x ++ rest)) (sym e) (refl, omega arith, omega arith)

pub pair_begins : (p : List ℕ × Json) (b rest : List ℕ) → Pair p b → Begins (b ++ rest)
pair_begins _ b rest (pair key value name before after inner _ quoted u v spelled e) =
    let text : b ++ rest ≡ name ++ ((before ++ 58 ∷ (after ++ inner)) ++ rest) = ap (λ x. x ++ rest) e ∙ append_assoc name (before ++ 58 ∷ (after ++ inner)) rest in
    subst Begins (sym text) (quote_begins key name ((before ++ 58 ∷ (after ++ inner)) ++ rest) quoted)

abbrev pub CompleteAt : ℕ → Type 0
CompleteAt n = (t : Json) (b : List ℕ) → Spelled t b → (rest : List ℕ) → depth t ≤ n → Ends rest → value_at n (b ++ rest) ≡ Ok (t, rest)

module _ (m : ℕ) (below : CompleteAt m) where
  pub item_complete : (found : List Json) (x : Json) (xs : List Json) (b rest : List ℕ) → AllByRecursion (λ j. depth j ≤ m) (found ++ x ∷ xs) → Spelled x b → Ends rest → item_at (value_at m) found (b ++ rest) ≡ Ok (x, rest)
  item_complete found x xs b rest good is ends = below x b is rest (all-at (λ j. depth j ≤ m) found x xs good) ends

  pub field_complete : (found : List (List ℕ × Json)) (x : List ℕ × Json) (xs : List (List ℕ × Json)) (b rest : List ℕ) → Flat m (found ++ x ∷ xs) → Pair x b → Ends rest → field_at (value_at m) found (b ++ rest) ≡ Ok (x, rest)
  field_complete found _ xs b rest good (pair key value name before after inner _ quoted u v spelled e) ends =
      let left = inner ++ rest in
      let tail = before ++ 58 ∷ (after ++ left) in
      let text : b ++ rest ≡ name ++ tail = ap (λ x. x ++ rest) e ∙ simp append_assoc in
      let free = distinct-free found (key, value) xs good.0 in
      let deep = all-at (λ p. depth p.1 ≤ m) found (key, value) xs good.1 in
      let skipped : skip_spaces (after ++ left) ≡ left = skip_run after left v ∙ skip_none left (begins value inner rest spelled) in
      let read = key_free (has_key found) (name ++ tail) key tail (58 ∷ (after ++ left)) (Some (after ++ left)) (string_complete key name tail quoted) free (sym (skip_run before (58 ∷ (after ++ left)) u)) refl in
      ap (field_at (value_at m) found) text ∙ ap (λ r. r >>= (λ k. value_at m k.1 >>= (λ v. Ok ((k.0, v.0), v.1)))) (read ∙ ap (λ x. Ok (key, x)) skipped)
      ∙ ap (λ r. r >>= (λ v. Ok ((key, v.0), v.1))) (below value inner spelled rest deep ends)

closing : (start close : ℕ) (inner b rest : List ℕ) → b ≡ start ∷ (inner ++ close ∷ []) → b ++ rest ≡ start ∷ (inner ++ close ∷ rest)
closing start close inner b rest e = ap (λ x. x ++ rest) e ∙ ap (λ x. start ∷ x) (append_assoc inner (close ∷ []) rest)

at_complete : (n : ℕ) → ((m : ℕ) → n ≡ suc m → CompleteAt m) → CompleteAt n
at_complete n below _ b (null _ e) rest deep ends = ap (λ x. value_at n (x ++ rest)) e ∙ value_null n (codes "null" ++ rest) _ refl
at_complete n below _ b (yes _ e) rest deep ends = ap (λ x. value_at n (x ++ rest)) e ∙ value_true n (codes "true" ++ rest) _ refl
at_complete n below _ b (no _ e) rest deep ends = ap (λ x. value_at n (x ++ rest)) e ∙ value_false n (codes "false" ++ rest) _ refl
at_complete n below _ b (number _ is) rest deep ends = number_complete n b rest is ends
at_complete n below _ b (string text _ (inner, letters, e)) rest deep ends =
    value_string n (b ++ rest) ((inner ++ 34 ∷ []) ++ rest) (ap (λ x. x ++ rest) e) ∙ ap as_string (string_complete text b rest (inner, letters, e))
at_complete n below _ b (no_items inner _ spaces e) rest deep ends =
    let m = n - 1 in
    let more : n ≡ suc m = omega (arith, depth-Arr [], deep) in
    value_array n (b ++ rest) (inner ++ 93 ∷ rest) m (closing 91 93 inner b rest e) more
    ∙ ap as_array (empty_complete 93 (item_at (value_at m)) Spelled (AllByRecursion (λ j. depth j ≤ m)) (inl refl) begins (item_complete m (below m more)) inner rest spaces)
at_complete n below _ b (array xs inner _ items e) rest deep ends =
    let m = n - 1 in
    let more : n ≡ suc m = omega (arith, depth-Arr xs, deep) in
    let nests : highest (map depth xs) ≤ m = omega (arith, depth-Arr xs, deep) in
    value_array n (b ++ rest) (inner ++ 93 ∷ rest) m (closing 91 93 inner b rest e) more
    ∙ ap as_array (list_complete 93 (item_at (value_at m)) Spelled (AllByRecursion (λ j. depth j ≤ m)) (inl refl) begins (item_complete m (below m more)) xs inner rest (of_items xs inner items) (highest-all m xs nests))
at_complete n below _ b (no_pairs inner _ spaces e) rest deep ends =
    let m = n - 1 in
    let more : n ≡ suc m = omega (arith, depth-Obj [], deep) in
    value_object n (b ++ rest) (inner ++ 125 ∷ rest) m (closing 123 125 inner b rest e) more
    ∙ ap as_object (empty_complete 125 (field_at (value_at m)) Pair (Flat m) (inr refl) pair_begins (field_complete m (below m more)) inner rest spaces)
at_complete n below _ b (object ps inner _ pairs distinct e) rest deep ends =
    let m = n - 1 in
    let more : n ≡ suc m = omega (arith, depth-Obj ps, deep) in
    let nests : highest_of_pairs (map (λ p. (p.0, depth p.1)) ps) ≤ m = omega (arith, depth-Obj ps, deep) in
    value_object n (b ++ rest) (inner ++ 125 ∷ rest) m (closing 123 125 inner b rest e) more
    ∙ ap as_object (list_complete 125 (field_at (value_at m)) Pair (Flat m) (inr refl) pair_begins (field_complete m (below m more)) ps inner rest (of_pairs ps inner pairs) (distinct, pairs-all m ps nests))

pub value_complete : (n : ℕ) → CompleteAt n
value_complete zero = at_complete zero (λ m e. absurd (omega (arith, e)))
value_complete (suc n) = at_complete (suc n) (λ m e. let same : n ≡ m = omega (arith, e) in subst CompleteAt same (value_complete n))

ends_spaces : (w : List ℕ) → AreSpaces w → Ends w
ends_spaces [] all = tt
ends_spaces (c ∷ cs) all = inl all.0

-- the whole text
pub document_complete : (t : Json) (b : List ℕ) (n : ℕ) → Spells t b → depth t ≤ n → document_at n b ≡ Ok t
document_complete t b n is deep =
    let here = reach b is.before is.value is.after is.is_before (begins t is.value is.after is.is_value) is.text in
    let read = value_complete n t is.value is.is_value is.after deep (ends_spaces is.after is.is_after) in
    let left : skip_spaces is.after ≡ [] = ap skip_spaces (sym (append-nil is.after)) ∙ skip_run is.after [] is.is_after in
    ap (λ x. value_at n x >>= (λ p. at_end p.0 (skip_spaces p.1))) here ∙ ap (λ r. r >>= (λ p. at_end p.0 (skip_spaces p.1))) read ∙ ap (at_end t) left

pub document_spells : (n : ℕ) (b s : List ℕ) (t : Json) → s ≡ b → IsUtf8 b → document_at n s ≡ Ok t → Spells t b × (depth t ≤ n)
document_spells n b s t same utf8 e =
    let (before, inner, after, u, is, v, text, deep) = document_sound n s t e in
    (record { before = before; value = inner; after = after; is_before = u; is_value = is; is_after = v; utf8 = utf8; text = sym same ∙ text }, deep)
