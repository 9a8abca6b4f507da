-- What reading refuses stands in the bytes.
use Rattle.std.proofs.Common.{◌≡◌, ℕ, zero, suc, ◌+◌, ◌<◌, ◌≤◌, ◌⊎◌, true, false, ◌||◌, ◌==◌, List, [], ◌∷◌, ◌++◌, length, Option, Some, None, Ok, Err, inl, inr, refl, sym, ap, ap₂, ◌∙◌, subst, append_assoc, eqb-true, arith}
use Rattle.std.proofs.lemmas.Bool.{or_parts}
use Rattle.std.proofs.lemmas.List.{length-append}
use Rattle.std.specs.Prelude.{codes}
use Rattle.std.specs.List.{AllByRecursion}
use Rattle.std.specs.Str.{bytes_eq}
use Rattle.jtext.specs.declared.json.Json.{Json}
use Rattle.jtext.specs.declared.json.Json.TheVariants as json
use Rattle.jtext.specs.declared.fault.Fault.{Fault}
use Rattle.jtext.specs.declared.fault.Fault.TheVariants.{NoMemory, Bad, Deep, Repeated, Lone}
use Rattle.jtext.specs.Depth.{depth}
use Rattle.jtext.specs.Readings.{Reading, strip_word}
use Rattle.jtext.specs.Strings.{Letters, string_at}
use Rattle.jtext.specs.Grammar.{Spelled, Pair, AreSpaces, Passes, Lacks}
use Rattle.jtext.specs.Reading.{skip_spaces, word_at, items_at, after_item, begun_at, list_at, item_at, field_at, key_at, after_key, colon_at, has_key, as_array, as_object, as_string, value_at, number_to, after_number, word_stop, number_stop}
use Rattle.jtext.specs.Refusal.{BeforeValue, first_item, next_item, member, BeforeKey, first_key, next_key, WithinString, in_value, in_key, IsDeep, IsRepeated, IsAlone}
use Rattle.jtext.proofs.Binds.{chosen}
use Rattle.jtext.proofs.Equals.{apart_bytes, other_bytes}
use Rattle.jtext.proofs.Keys.{all-push}
use Rattle.jtext.proofs.Lones.{bind_err, no_err, fault_is, StringFault, string_fault}
use Rattle.jtext.proofs.StringLaws.{strip_one, string_sound}
use Rattle.jtext.proofs.Series.{Series, last, next, spaces_sound}
use Rattle.jtext.proofs.Turns.{arrays_at, objects_at, value_is}
use Rattle.jtext.proofs.Documents.{Flat, to_items, to_pairs, value_sound, field_reads, key_sound}

-- ---- keys

pub lacks_free : (ps : List (List ℕ × Json)) (key : List ℕ) → has_key ps key ≡ false → Lacks key ps
lacks_free [] key e = tt
lacks_free (p ∷ ps) key e = let h = or_parts (bytes_eq p.0 key) (has_key ps key) e in (apart_bytes p.0 key h.0, lacks_free ps key h.1)

pub free_lacks : (ps : List (List ℕ × Json)) (key : List ℕ) → Lacks key ps → has_key ps key ≡ false
free_lacks [] key l = refl
free_lacks (p ∷ ps) key l = ap₂ (λ a b. a || b) (other_bytes p.0 key l.0) (free_lacks ps key l.1)

pub taken_not_lacks : (ps : List (List ℕ × Json)) (key : List ℕ) → has_key ps key ≡ true → Lacks key ps → ⊥
taken_not_lacks ps key e l = let h : true ≡ false = sym e ∙ free_lacks ps key l in cc

-- ---- lists of items

series_snoc : {A : Type 0} (P : A → List ℕ → Type 0) (xs : List A) (b : List ℕ) (x : A) (w v u : List ℕ) → Series P xs b → AreSpaces w → P x v → AreSpaces u → Series P (xs ++ x ∷ []) (b ++ 44 ∷ (w ++ (v ++ u)))
series_snoc P _ b x w v u (last y before inner after _ p q r e) spaces is behind =
    next y (x ∷ []) before inner after (w ++ (v ++ u)) _ p q r (last x w v u (w ++ (v ++ u)) spaces is behind refl) (ap (λ l. l ++ 44 ∷ (w ++ (v ++ u))) e ∙ simp append_assoc)
series_snoc P _ b x w v u (next y ys before inner after more _ p q r s e) spaces is behind =
    next y (ys ++ x ∷ []) before inner after (more ++ 44 ∷ (w ++ (v ++ u))) _ p q r (series_snoc P ys more x w v u s spaces is behind) (ap (λ l. l ++ 44 ∷ (w ++ (v ++ u))) e ∙ simp append_assoc)

module _ {A : Type 0} (P : A → List ℕ → Type 0) where
  -- the bytes from an opening bracket to the next item, where these were found
  abbrev pub UpTo : List A → List ℕ → Type 0
  UpTo found t = ((found ≡ []) × AreSpaces t) ⊎ ((inner : List ℕ) × (w : List ℕ) × Series P found inner × AreSpaces w × (t ≡ inner ++ 44 ∷ w))

  grown : (found : List A) (t : List ℕ) (x : A) (v u : List ℕ) → UpTo found t → P x v → AreSpaces u → Series P (found ++ x ∷ []) (t ++ (v ++ u))
  grown found t x v u (inl (none, spaces)) is behind = subst (λ xs. Series P (xs ++ x ∷ []) (t ++ (v ++ u))) (sym none) (last x t v u _ spaces is behind refl)
  grown found t x v u (inr (inner, w, series, spaces, e)) is behind =
      subst (Series P (found ++ x ∷ [])) (sym (ap (λ l. l ++ (v ++ u)) e ∙ append_assoc inner (44 ∷ w) (v ++ u))) (series_snoc P found inner x w v u series spaces is behind)

module _ {A : Type 0} (close : ℕ) (item : List A → List ℕ → Reading A) (P : A → List ℕ → Type 0) (I : List A → Type 0) (W : List ℕ → Fault → Type 0) (start : List ℕ)
    (reads : (found : List A) (s : List ℕ) (p : A × List ℕ) → I found → item found s ≡ Ok p → Passes (P p.0) s p.1 × I (found ++ p.0 ∷ []))
    (bad : (b : List ℕ) (n : ℕ) → W b (Bad n))
    (fails : (found : List A) (t s : List ℕ) (f : Fault) → UpTo P found t → I found → item found s ≡ Err f → W (start ++ (t ++ s)) f) where
  after_stands : (n : ℕ) (found : List A) (x : A) (t s front after : List ℕ) (f : Fault) (o q : Option (List ℕ))
      → ((t' u : List ℕ) → UpTo P (found ++ x ∷ []) t' → length u < n → items_at (close ∷ []) item n (found ++ x ∷ []) u ≡ Err f → W (start ++ (t' ++ u)) f)
      → UpTo P found t → P x front → s ≡ front ++ after → length s < suc n
      → strip_word (close ∷ []) (skip_spaces after) ≡ o → strip_word (codes ",") (skip_spaces after) ≡ q
      → after_item (items_at (close ∷ []) item n (found ++ x ∷ [])) (found ++ x ∷ []) (skip_spaces after) o q ≡ Err f → W (start ++ (t ++ s)) f
  after_stands n found x t s front after f (Some rest) q later upto is at room closed comma e = absurd (no_err _ f e)
  after_stands n found x t s front after f None None later upto is at room closed comma e = subst (W (start ++ (t ++ s))) (fault_is {A = List A × List ℕ} (Bad (length (skip_spaces after))) f e) (bad (start ++ (t ++ s)) (length (skip_spaces after)))
  after_stands n found x t s front after f None (Some rest) later upto is at room closed comma e =
      let w = spaces_sound after in
      let v = spaces_sound rest in
      let u = skip_spaces rest in
      let t' = (t ++ (front ++ w.0)) ++ 44 ∷ v.0 in
      let whole : s ≡ front ++ (w.0 ++ 44 ∷ (v.0 ++ u)) = at ∙ ap (λ y. front ++ y) (w.2 ∙ ap (λ y. w.0 ++ y) (strip_one 44 (skip_spaces after) rest comma ∙ ap (λ y. 44 ∷ y) v.2)) in
      let parts : t' ++ u ≡ t ++ (front ++ (w.0 ++ 44 ∷ (v.0 ++ u))) = simp append_assoc in
      let same : t' ++ u ≡ t ++ s = parts ∙ ap (λ y. t ++ y) (sym whole) in
      let len : length s ≡ length front + (length w.0 + suc (length v.0 + length u)) =
      ap length whole ∙ length-append front _ ∙ ap (λ k. length front + k) (length-append w.0 _ ∙ ap (λ k. length w.0 + suc k) (length-append v.0 u)) in
      subst (λ y. W (start ++ y) f) same (later t' u (inr (t ++ (front ++ w.0), v.0, grown P found t x front w.0 upto is w.1, v.1, refl)) (omega (arith, len, room)) e)

  items_stand : (n : ℕ) (found : List A) (t s : List ℕ) (f : Fault) → UpTo P found t → I found → length s < n → items_at (close ∷ []) item n found s ≡ Err f → W (start ++ (t ++ s)) f
  unfolding items_at
  items_stand zero found t s f upto good room e = absurd (omega arith)
  items_stand (suc n) found t s f upto good room e =
      elim (bind_err (item found s) _ f e) [
        | inl h ↦ fails found t s f upto good h
        | inr (q, is_q, e1) ↦
            let (front, grows) = reads found s q good is_q in
            after_stands n found q.0 t s front.0 q.1 f _ _ (λ t' u upto' room' h. items_stand n (found ++ q.0 ∷ []) t' u f upto' grows room' h) upto front.1 front.2 room refl refl e1
      ]

  begun_stands : (s : List ℕ) (f : Fault) (o : Option (List ℕ)) → I [] → begun_at (close ∷ []) item (skip_spaces s) o ≡ Err f → W (start ++ s) f
  begun_stands s f (Some rest) good e = absurd (no_err _ f e)
  begun_stands s f None good e =
      let w = spaces_sound s in
      subst (λ y. W (start ++ y) f) (sym w.2) (items_stand (suc (length (skip_spaces s))) [] w.0 (skip_spaces s) f (inl (refl, w.1)) good (omega arith) e)

  pub list_stands : (s : List ℕ) (f : Fault) → I [] → list_at (close ∷ []) item s ≡ Err f → W (start ++ s) f
  list_stands s f good e = begun_stands s f (strip_word (close ∷ []) (skip_spaces s)) good e

-- ---- values

module _ (deep : ℕ) where
  -- the fault with so many bytes from its place on stands in the bytes
  abbrev pub Stood : List ℕ → Fault → Type 0
  Stood b NoMemory = ⊥
  Stood b (Bad k) = Unit {0}
  Stood b (Deep k) = (n : ℕ) × IsDeep deep b n × (n + k ≡ length b)
  Stood b (Repeated k) = (n : ℕ) × IsRepeated deep b n × (n + k ≡ length b)
  Stood b (Lone k) = (n : ℕ) × IsAlone deep b n × (n + k ≡ length b)

  string_stands : (left s : List ℕ) (f : Fault) → ((text inner : List ℕ) → Letters text inner → WithinString deep (left ++ 34 ∷ inner)) → StringFault s f → Stood (left ++ s) f
  string_stands left s NoMemory within h = h
  string_stands left s (Bad k) within h = tt
  string_stands left s (Deep k) within h = absurd h
  string_stands left s (Repeated k) within h = absurd h
  string_stands left s (Lone k) within h =
      let i = h.inside in
      let before = left ++ 34 ∷ i.inner in
      let whole : left ++ s ≡ before ++ i.rest = ap (λ y. left ++ y) (h.opens ∙ ap (λ y. 34 ∷ y) i.split) ∙ simp append_assoc in
      (length before, record { left = before; right = i.rest; split = whole; here = refl; before = within i.text i.inner i.letters; alone = i.alone }, omega (arith, ap length whole, length-append before i.rest, i.here))

  key_stands : (room : ℕ) (ps : List (List ℕ × Json)) (left s : List ℕ) (f : Fault) → BeforeKey deep room ps left → key_at (has_key ps) s ≡ Err f → Stood (left ++ s) f
  key_stands room ps left s f before e =
      elim (bind_err (string_at s) _ f e) [
        | inl h ↦ string_stands left s f (λ text inner letters. in_key room ps left text inner _ before letters refl) (string_fault s f h)
        | inr (p, is_p, e1) ↦
            elim (chosen (has_key ps p.0) (Err (Repeated (length s))) (after_key p.0 p.1) (Err f) e1) [
              | inl h ↦
                  let (name, spelled, split) = string_sound s p is_p in
                  subst (Stood (left ++ s)) (fault_is {A = List ℕ × List ℕ} (Repeated (length s)) f h.1)
                  (length left, record { left = left; right = s; split = refl; here = refl; room = room; pairs = ps; before = before; key = p.0; name = name; more = p.1; spelled = spelled; text = split; taken = taken_not_lacks ps p.0 h.0 }, sym (length-append left s))
              | inr h ↦ colon_stands p.0 (skip_spaces p.1) (strip_word (codes ":") (skip_spaces p.1)) h.1
            ]
      ]
    where
      colon_stands : (key t : List ℕ) (o : Option (List ℕ)) → colon_at key t o ≡ Err f → Stood (left ++ s) f
      colon_stands key t (Some rest) e = absurd (no_err _ f e)
      colon_stands key t None e = subst (Stood (left ++ s)) (fault_is {A = List ℕ × List ℕ} (Bad (length t)) f e) tt

  word_stands : (b name s : List ℕ) (v : Json) (o : Option (List ℕ)) (f : Fault) → word_at name v s o ≡ Err f → Stood b f
  word_stands b name s v (Some rest) f e = absurd (no_err _ f e)
  word_stands b name s v None f e = subst (Stood b) (fault_is {A = Json × List ℕ} (Bad (word_stop name s)) f e) tt

  number_stands : (b s : List ℕ) (o : Option (List ℕ)) (f : Fault) → number_to s o ≡ Err f → Stood b f
  number_stands b s (Some rest) f e = absurd (no_err _ f e)
  number_stands b s None f e = subst (Stood b) (fault_is {A = Json × List ℕ} (Bad (number_stop s)) f e) tt

  -- at a byte, given what stands between brackets
  at_byte_stands : (n c : ℕ) (left cs : List ℕ) (f : Fault) → BeforeValue deep n left → (as_array (arrays_at n cs) ≡ Err f → Stood (left ++ 91 ∷ cs) f) → (as_object (objects_at n cs) ≡ Err f → Stood (left ++ 123 ∷ cs) f)
      → value_at n (c ∷ cs) ≡ Err f → Stood (left ++ c ∷ cs) f
  at_byte_stands n c left cs f before arrays objects whole =
      let s = c ∷ cs in
      let b = left ++ s in
      let e = sym (value_is n s) ∙ whole in
      elim (chosen (c == 110) (word_at (codes "null") json.Null s (strip_word (codes "null") s)) _ (Err f) e) [
        | inl h ↦ word_stands b (codes "null") s json.Null _ f h.1
        | inr h1 ↦
            elim (chosen (c == 116) (word_at (codes "true") (json.Bool true) s (strip_word (codes "true") s)) _ (Err f) h1.1) [
              | inl h ↦ word_stands b (codes "true") s (json.Bool true) _ f h.1
              | inr h2 ↦
                  elim (chosen (c == 102) (word_at (codes "false") (json.Bool false) s (strip_word (codes "false") s)) _ (Err f) h2.1) [
                    | inl h ↦ word_stands b (codes "false") s (json.Bool false) _ f h.1
                    | inr h3 ↦
                        elim (chosen (c == 34) (as_string (string_at s)) _ (Err f) h3.1) [
                          | inl h ↦
                              elim (bind_err (string_at s) _ f h.1) [
                                | inl g ↦ string_stands left s f (λ text inner letters. in_value n left text inner _ before letters refl) (string_fault s f g)
                                | inr (p, is_p, g) ↦ absurd (no_err _ f g)
                              ]
                          | inr h4 ↦
                              elim (chosen (c == 91) (as_array (arrays_at n cs)) _ (Err f) h4.1) [
                                | inl h ↦ subst (λ x. Stood (left ++ x ∷ cs) f) (sym (eqb-true c 91 h.0)) (arrays h.1)
                                | inr h5 ↦
                                    elim (chosen (c == 123) (as_object (objects_at n cs)) (number_to s (after_number s)) (Err f) h5.1) [
                                      | inl h ↦ subst (λ x. Stood (left ++ x ∷ cs) f) (sym (eqb-true c 123 h.0)) (objects h.1)
                                      | inr h ↦ number_stands b s _ f h.1
                                    ]
                              ]
                        ]
                  ]
            ]
      ]

  deep_stands : (left right : List ℕ) (f : Fault) → BeforeValue deep 0 left → (more : List ℕ) × ((right ≡ 91 ∷ more) ⊎ (right ≡ 123 ∷ more)) → Deep (length right) ≡ f → Stood (left ++ right) f
  deep_stands left right f before opens e = subst (Stood (left ++ right)) e (length left, record { left = left; right = right; split = refl; here = refl; before = before; opens = opens }, sym (length-append left right))

  module _ (n : ℕ) (value_stands : (left s : List ℕ) (f : Fault) → BeforeValue deep n left → value_at n s ≡ Err f → Stood (left ++ s) f) where
    item_place : (left : List ℕ) (found : List Json) (t : List ℕ) → BeforeValue deep (suc n) left → UpTo Spelled found t → AllByRecursion (λ x. depth x ≤ n) found → BeforeValue deep n ((left ++ 91 ∷ []) ++ t)
    item_place left found t before (inl (none, spaces)) good = first_item n left t _ before spaces (append_assoc left (91 ∷ []) t)
    item_place left found t before (inr (inner, w, series, spaces, e)) good =
        next_item n found left inner w _ before (to_items found inner series) good spaces (ap (λ y. (left ++ 91 ∷ []) ++ y) e ∙ append_assoc left (91 ∷ []) (inner ++ 44 ∷ w))

    arrays_stand : (left cs : List ℕ) (f : Fault) → BeforeValue deep (suc n) left → as_array (arrays_at (suc n) cs) ≡ Err f → Stood (left ++ 91 ∷ cs) f
    arrays_stand left cs f before e =
        elim (bind_err (arrays_at (suc n) cs) _ f e) [
          | inr (p, is_p, g) ↦ absurd (no_err _ f g)
          | inl h ↦
              subst (λ y. Stood y f) (append_assoc left (91 ∷ []) cs)
              (list_stands 93 (item_at (value_at n)) Spelled (AllByRecursion (λ x. depth x ≤ n)) Stood (left ++ 91 ∷ [])
              (λ found s p good is. let v = value_sound n s p is in (v.0, all-push (λ x. depth x ≤ n) found p.0 good v.1)) (λ b k. tt)
              (λ found t s g upto good is. subst (λ y. Stood y g) (append_assoc (left ++ 91 ∷ []) t s) (value_stands ((left ++ 91 ∷ []) ++ t) s g (item_place left found t before upto good) is)) cs f tt h)
        ]

    key_place : (left : List ℕ) (found : List (List ℕ × Json)) (t : List ℕ) → BeforeValue deep (suc n) left → UpTo Pair found t → Flat n found → BeforeKey deep n found ((left ++ 123 ∷ []) ++ t)
    key_place left found t before (inl (none, spaces)) good = subst (λ xs. BeforeKey deep n xs ((left ++ 123 ∷ []) ++ t)) (sym none) (first_key n left t _ before spaces (append_assoc left (123 ∷ []) t))
    key_place left found t before (inr (inner, w, series, spaces, e)) good =
        next_key n found left inner w _ before (to_pairs found inner series) good.0 good.1 spaces (ap (λ y. (left ++ 123 ∷ []) ++ y) e ∙ append_assoc left (123 ∷ []) (inner ++ 44 ∷ w))

    field_stands : (left : List ℕ) (found : List (List ℕ × Json)) (s : List ℕ) (f : Fault) → BeforeKey deep n found left → field_at (value_at n) found s ≡ Err f → Stood (left ++ s) f
    field_stands left found s f before e =
        elim (bind_err (key_at (has_key found) s) _ f e) [
          | inl h ↦ key_stands n found left s f before h
          | inr (k, is_k, e1) ↦
              elim (bind_err (value_at n k.1) _ f e1) [
                | inr (v, is_v, g) ↦ absurd (no_err _ f g)
                | inl h ↦
                    let r = key_sound (has_key found) s k is_k in
                    let here = left ++ (r.name ++ (r.before ++ 58 ∷ r.after)) in
                    let parts : here ++ k.1 ≡ left ++ (r.name ++ (r.before ++ 58 ∷ (r.after ++ k.1))) = simp append_assoc in
                    let same : here ++ k.1 ≡ left ++ s = parts ∙ ap (λ y. left ++ y) (sym r.text) in
                    subst (λ y. Stood y f) same (value_stands here k.1 f (member n found k.0 left r.name r.before r.after here before r.is_name (lacks_free found k.0 r.free) r.is_before r.is_after refl) h)
              ]
        ]

    objects_stand : (left cs : List ℕ) (f : Fault) → BeforeValue deep (suc n) left → as_object (objects_at (suc n) cs) ≡ Err f → Stood (left ++ 123 ∷ cs) f
    objects_stand left cs f before e =
        elim (bind_err (objects_at (suc n) cs) _ f e) [
          | inr (p, is_p, g) ↦ absurd (no_err _ f g)
          | inl h ↦
              subst (λ y. Stood y f) (append_assoc left (123 ∷ []) cs)
              (list_stands 125 (field_at (value_at n)) Pair (Flat n) Stood (left ++ 123 ∷ [])
              (λ found s p good is. field_reads n (value_sound n) found s p good is) (λ b k. tt)
              (λ found t s g upto good is. subst (λ y. Stood y g) (append_assoc (left ++ 123 ∷ []) t s) (field_stands ((left ++ 123 ∷ []) ++ t) found s g (key_place left found t before upto good) is)) cs f (tt, tt) h)
        ]

  pub value_stands : (n : ℕ) (left s : List ℕ) (f : Fault) → BeforeValue deep n left → value_at n s ≡ Err f → Stood (left ++ s) f
  value_stands n left [] f before e = subst (Stood (left ++ [])) (fault_is {A = Json × List ℕ} (Bad 0) f (sym (value_is n []) ∙ e)) tt
  value_stands zero left (c ∷ cs) f before e =
      at_byte_stands zero c left cs f before
      (λ h. deep_stands left (91 ∷ cs) f before (cs, inl refl) (fault_is {A = Json × List ℕ} (Deep (suc (length cs))) f h))
      (λ h. deep_stands left (123 ∷ cs) f before (cs, inr refl) (fault_is {A = Json × List ℕ} (Deep (suc (length cs))) f h)) e
  value_stands (suc n) left (c ∷ cs) f before e = at_byte_stands (suc n) c left cs f before (arrays_stand n (value_stands n) left cs f before) (objects_stand n (value_stands n) left cs f before) e
