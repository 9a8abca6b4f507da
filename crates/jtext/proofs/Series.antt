-- Lists of items between brackets: what is read is spelled so, and what is spelled so is read. Generic in the item.
use Rattle.std.proofs.Common.{◌≡◌, ℕ, zero, suc, ◌+◌, ◌-◌, ◌<◌, ◌≤◌, ◌≢◌, ◌⊎◌, true, false, cond, List, [], ◌∷◌, ◌++◌, length, Option, Some, None, Ok, inl, inr, refl, sym, ap, ◌∙◌, subst, append_assoc, arith}
use Rattle.std.proofs.lemmas.List.{length-append}
use Rattle.std.proofs.lemmas.Bool.Decides.{nat_tests}
use Rattle.std.specs.Prelude.{codes}
use Rattle.jtext.specs.declared.fault.Fault.TheVariants.{Bad}
use Rattle.jtext.specs.Readings.{Reading, strip_word}
use Rattle.jtext.specs.Grammar.{IsSpace, AreSpaces, Passes}
use Rattle.jtext.specs.Reading.{is_space, skip_spaces, items_at, after_item, list_at, begun_at}
use Rattle.jtext.proofs.Binds.{bind_ok, test}
use Rattle.jtext.proofs.Turns.{SoFar, list_is, turn}
use Rattle.jtext.proofs.StringLaws.{strip_one, pair_is, no_ok}

-- one item or more, with white space around each and a comma between
pub data Series {A : Type 0} (P : A → List ℕ → Type 0) : List A → List ℕ → Type 0 where
  last : (x : A) (before inner after b : List ℕ) → AreSpaces before → P x inner → AreSpaces after → b ≡ before ++ (inner ++ after) → Series P (x ∷ []) b
  next : (x : A) (xs : List A) (before inner after more b : List ℕ) → AreSpaces before → P x inner → AreSpaces after → Series P xs more
      → b ≡ before ++ (inner ++ (after ++ 44 ∷ more)) → Series P (x ∷ xs) b

-- ---- white space

pub space_of : (c : ℕ) → is_space c ≡ true → IsSpace c
space_of c e = grind (arith, nat_tests)

pub space_true : (c : ℕ) → IsSpace c → is_space c ≡ true
space_true c (inl e) = ap is_space e
space_true c (inr (inl e)) = ap is_space e
space_true c (inr (inr (inl e))) = ap is_space e
space_true c (inr (inr (inr e))) = ap is_space e

pub spaces_sound : (s : List ℕ) → Passes AreSpaces s (skip_spaces s)
spaces_sound [] = ([], tt, refl)
spaces_sound (c ∷ cs) =
    test (λ b. Passes AreSpaces (c ∷ cs) (cond b (skip_spaces cs) (c ∷ cs))) (is_space c)
    (λ e. let p = spaces_sound cs in (c ∷ p.0, (space_of c e, p.1), ap (λ x. c ∷ x) p.2))
    (λ e. ([], tt, refl))

pub skip_spaces-le : (s : List ℕ) → length (skip_spaces s) ≤ length s
skip_spaces-le [] = omega arith
skip_spaces-le (c ∷ cs) = grind (arith, skip_spaces-le cs)

-- what may follow a value: nothing, white space, a comma or a closing bracket
abbrev pub Ends : List ℕ → Type 0
Ends [] = Unit {0}
Ends (c ∷ cs) = IsSpace c ⊎ (c ≡ 44) ⊎ (c ≡ 93) ⊎ (c ≡ 125)

-- not white space and no closing bracket: the first byte of an item
abbrev pub Begins : List ℕ → Type 0
Begins [] = ⊥
Begins (c ∷ cs) = (is_space c ≡ false) × (c ≢ 93) × (c ≢ 125)

pub ends_run : (w s : List ℕ) → AreSpaces w → Ends s → Ends (w ++ s)
ends_run [] s all e = e
ends_run (c ∷ cs) s all e = inl all.0

pub skip_run : (w s : List ℕ) → AreSpaces w → skip_spaces (w ++ s) ≡ skip_spaces s
skip_run [] s all = refl
skip_run (c ∷ cs) s all = ap (λ t. cond t (skip_spaces (cs ++ s)) (c ∷ (cs ++ s))) (space_true c all.0) ∙ skip_run cs s all.1

pub skip_none : (s : List ℕ) → Begins s → skip_spaces s ≡ s
skip_none [] b = refl
skip_none (c ∷ cs) b = ap (λ t. cond t (skip_spaces cs) (c ∷ cs)) b.0

pub reach : (s before value tail : List ℕ) → AreSpaces before → Begins (value ++ tail) → s ≡ before ++ (value ++ tail) → skip_spaces s ≡ value ++ tail
reach s before value tail space b e = ap skip_spaces e ∙ skip_run before (value ++ tail) space ∙ skip_none (value ++ tail) b

pub padded : {A : Type 0} (P : A → List ℕ → Type 0) (w : List ℕ) (xs : List A) (b : List ℕ) → AreSpaces w → Series P xs b → Series P xs (w ++ b)
padded P w _ b space (last x before value after _ a v z e) =
    last x (w ++ before) value after (w ++ b) (append_spaces w before space a) v z (ap (λ t. w ++ t) e ∙ sym (append_assoc w before (value ++ after)))
  where
    append_spaces : (u v : List ℕ) → AreSpaces u → AreSpaces v → AreSpaces (u ++ v)
    append_spaces [] v a b = b
    append_spaces (c ∷ cs) v a b = (a.0, append_spaces cs v a.1 b)
padded P w _ b space (next x xs before value after more _ a v z m e) =
    next x xs (w ++ before) value after more (w ++ b) (append_spaces w before space a) v z m (ap (λ t. w ++ t) e ∙ sym (append_assoc w before (value ++ (after ++ 44 ∷ more))))
  where
    append_spaces : (u v : List ℕ) → AreSpaces u → AreSpaces v → AreSpaces (u ++ v)
    append_spaces [] v a b = b
    append_spaces (c ∷ cs) v a b = (a.0, append_spaces cs v a.1 b)

-- ---- what is read

-- I holds of what was found: a condition that each item keeps
module _ {A : Type 0} (close : ℕ) (item : List A → List ℕ → Reading A) (P : A → List ℕ → Type 0) (I : List A → Type 0)
    (reads : (found : List A) (s : List ℕ) (p : A × List ℕ) → I found → item found s ≡ Ok p → Passes (P p.0) s p.1 × I (found ++ p.0 ∷ [])) where
  -- the items that were read after those found
  More : List A → List ℕ → List A × List ℕ → Type 0
  More found s p = (xs : List A) × (b : List ℕ) × Series P xs b × (p.0 ≡ found ++ xs) × (s ≡ b ++ close ∷ p.1) × I p.0

  more_is : (found : List A) (s : List ℕ) (p : List A × List ℕ) (xs : List A) (b : List ℕ) → Series P xs b → p.0 ≡ found ++ xs → s ≡ b ++ close ∷ p.1 → I p.0 → More found s p
  unfolding More
  more_is found s p xs b a e f i = (xs, b, a, e, f, i)

  after_sound : (n : ℕ) (found : List A) (x : A) (s front after : List ℕ) (p : List A × List ℕ) (o q : Option (List ℕ))
      → ((t : List ℕ) → items_at (close ∷ []) item n (found ++ x ∷ []) t ≡ Ok p → More (found ++ x ∷ []) t p)
      → I (found ++ x ∷ []) → P x front → s ≡ front ++ after
      → strip_word (close ∷ []) (skip_spaces after) ≡ o → strip_word (codes ",") (skip_spaces after) ≡ q
      → after_item (items_at (close ∷ []) item n (found ++ x ∷ [])) (found ++ x ∷ []) (skip_spaces after) o q ≡ Ok p → More found s p
  unfolding More
  after_sound n found x s front after p (Some rest) q later good is at closed comma e =
      let same = pair_is (found ++ x ∷ []) rest p e in
      let w = spaces_sound after in
      let tail : after ≡ w.0 ++ close ∷ rest = w.2 ∙ ap (λ y. w.0 ++ y) (strip_one close (skip_spaces after) rest closed) in (
        x ∷ [],
        front ++ w.0,
        last x [] front w.0 (front ++ w.0) tt is w.1 refl,
        sym (ap (λ r. r.0) same),
        at ∙ ap (λ y. front ++ y) (tail ∙ ap (λ r. w.0 ++ close ∷ r.1) same) ∙ sym (append_assoc front w.0 (close ∷ p.1)),
        subst I (ap (λ r. r.0) same) good,
      )
  after_sound n found x s front after p None (Some rest) later good is at closed comma e =
      let w = spaces_sound after in
      let v = spaces_sound rest in
      let (xs, b, series, found_all, text, i) = later (skip_spaces rest) e in
      let tail : after ≡ w.0 ++ 44 ∷ rest = w.2 ∙ ap (λ y. w.0 ++ y) (strip_one 44 (skip_spaces after) rest comma) in (
        x ∷ xs,
        front ++ (w.0 ++ 44 ∷ (v.0 ++ b)),
        next x xs [] front w.0 (v.0 ++ b) _ tt is w.1 (padded P v.0 xs b v.1 series) refl,
        found_all ∙ append_assoc found (x ∷ []) xs,
        at ∙ ap (λ y. front ++ y) (tail ∙ ap (λ y. w.0 ++ 44 ∷ y) (v.2 ∙ ap (λ y. v.0 ++ y) text)) ∙ simp append_assoc,
        i,
      )
  after_sound n found x s front after p None None later good is at closed comma e = absurd (no_ok (Bad (length (skip_spaces after))) p e)

  items_sound : (n : ℕ) (found : List A) (s : List ℕ) (p : List A × List ℕ) → I found → items_at (close ∷ []) item n found s ≡ Ok p → More found s p
  unfolding items_at
  items_sound zero found s p good e = absurd (no_ok (Bad (length s)) p e)
  items_sound (suc n) found s p good e =
      let (q, is_q, e1) = bind_ok (item found s) _ p e in
      let (front, grows) = reads found s q good is_q in
      after_sound n found q.0 s front.0 q.1 p _ _ (λ t h. items_sound n (found ++ q.0 ∷ []) t p grows h) grows front.1 front.2 refl refl e1

  -- what stands between the brackets
  Listed : List A → List ℕ → Type 0
  Listed xs b = ((xs ≡ []) × AreSpaces b) ⊎ Series P xs b

  begun_sound : (s : List ℕ) (p : List A × List ℕ) (o : Option (List ℕ)) → I [] → strip_word (close ∷ []) (skip_spaces s) ≡ o → begun_at (close ∷ []) item (skip_spaces s) o ≡ Ok p
      → Passes (λ b. (inner : List ℕ) × (((p.0 ≡ []) × AreSpaces inner) ⊎ Series P p.0 inner) × (b ≡ inner ++ close ∷ [])) s p.1 × I p.0
  unfolding More
  begun_sound s p (Some rest) good closed e =
      let same = pair_is [] rest p e in
      let w = spaces_sound s in (
        (w.0 ++ close ∷ [], (w.0, inl (sym (ap (λ r. r.0) same), w.1), refl), w.2 ∙ ap (λ y. w.0 ++ y) (strip_one close (skip_spaces s) rest closed ∙ ap (λ r. close ∷ r.1) same) ∙ sym (append_assoc w.0 (close ∷ []) p.1)),
        subst I (ap (λ r. r.0) same) good,
      )
  begun_sound s p None good closed e =
      let w = spaces_sound s in
      let (xs, b, series, all, text, i) = items_sound (suc (length (skip_spaces s))) [] (skip_spaces s) p good e in
      let inner = w.0 ++ b in (
        (inner ++ close ∷ [], (inner, inr (subst (λ y. Series P y inner) (sym all) (padded P w.0 xs b w.1 series)), refl), w.2 ∙ ap (λ y. w.0 ++ y) text ∙ simp append_assoc),
        i,
      )

  pub list_sound : (s : List ℕ) (p : List A × List ℕ) → I [] → list_at (close ∷ []) item s ≡ Ok p
      → Passes (λ b. (inner : List ℕ) × (((p.0 ≡ []) × AreSpaces inner) ⊎ Series P p.0 inner) × (b ≡ inner ++ close ∷ [])) s p.1 × I p.0
  list_sound s p good e = begun_sound s p _ good refl e

-- ---- what is spelled

pub not_closed : (close : ℕ) (s : List ℕ) → (close ≡ 93) ⊎ (close ≡ 125) → Begins s → strip_word (close ∷ []) s ≡ None
not_closed close [] which b = refl
not_closed close (c ∷ cs) (inl e) b = ap (λ k. strip_word (k ∷ []) (c ∷ cs)) e ∙ grind (arith, b.1)
not_closed close (c ∷ cs) (inr e) b = ap (λ k. strip_word (k ∷ []) (c ∷ cs)) e ∙ grind (arith, b.2)

-- I holds of the whole list
module _ {A : Type 0} (close : ℕ) (item : List A → List ℕ → Reading A) (P : A → List ℕ → Type 0) (I : List A → Type 0) (which : (close ≡ 93) ⊎ (close ≡ 125))
    (begins : (x : A) (b rest : List ℕ) → P x b → Begins (b ++ rest))
    (reads : (found : List A) (x : A) (xs : List A) (b rest : List ℕ) → I (found ++ x ∷ xs) → P x b → Ends rest → item found (b ++ rest) ≡ Ok (x, rest)) where
  closes : (s : List ℕ) → strip_word (close ∷ []) (close ∷ s) ≡ Some s
  closes s = closed which
    where
      closed : (close ≡ 93) ⊎ (close ≡ 125) → strip_word (close ∷ []) (close ∷ s) ≡ Some s
      closed (inl e) = subst (λ k. strip_word (k ∷ []) (k ∷ s) ≡ Some s) (sym e) refl
      closed (inr e) = subst (λ k. strip_word (k ∷ []) (k ∷ s) ≡ Some s) (sym e) refl

  no_comma : (s : List ℕ) → strip_word (close ∷ []) (44 ∷ s) ≡ None
  no_comma s = other which
    where
      other : (close ≡ 93) ⊎ (close ≡ 125) → strip_word (close ∷ []) (44 ∷ s) ≡ None
      other (inl e) = subst (λ k. strip_word (k ∷ []) (44 ∷ s) ≡ None) (sym e) refl
      other (inr e) = subst (λ k. strip_word (k ∷ []) (44 ∷ s) ≡ None) (sym e) refl

  not_space : (s : List ℕ) → skip_spaces (close ∷ s) ≡ close ∷ s
  not_space s = other which
    where
      other : (close ≡ 93) ⊎ (close ≡ 125) → skip_spaces (close ∷ s) ≡ close ∷ s
      other (inl e) = subst (λ k. skip_spaces (k ∷ s) ≡ k ∷ s) (sym e) refl
      other (inr e) = subst (λ k. skip_spaces (k ∷ s) ≡ k ∷ s) (sym e) refl

  ends_close : (s : List ℕ) → Ends (close ∷ s)
  ends_close s = other which
    where
      other : (close ≡ 93) ⊎ (close ≡ 125) → Ends (close ∷ s)
      other (inl e) = inr (inr (inl e))
      other (inr e) = inr (inr (inr e))

  series_begins : (xs : List A) (b rest : List ℕ) → Series P xs b → Begins (skip_spaces (b ++ rest))
  series_begins _ b rest (last x before value after _ a v z e) =
      let text : b ++ rest ≡ before ++ (value ++ (after ++ rest)) = ap (λ y. y ++ rest) e ∙ simp append_assoc in
      let start = begins x value (after ++ rest) v in
      subst Begins (sym (reach (b ++ rest) before value (after ++ rest) a start text)) start
  series_begins _ b rest (next x xs before value after more _ a v z items e) =
      let text : b ++ rest ≡ before ++ (value ++ (after ++ 44 ∷ (more ++ rest))) = ap (λ y. y ++ rest) e ∙ simp append_assoc in
      let start = begins x value (after ++ 44 ∷ (more ++ rest)) v in
      subst Begins (sym (reach (b ++ rest) before value (after ++ 44 ∷ (more ++ rest)) a start text)) start

  series_complete : (xs : List A) (b : List ℕ) → Series P xs b → (m : ℕ) (found : List A) (rest : List ℕ) → I (found ++ xs) → length (skip_spaces (b ++ close ∷ rest)) ≤ m
      → items_at (close ∷ []) item (suc m) found (skip_spaces (b ++ close ∷ rest)) ≡ Ok (found ++ xs, rest)
  series_complete _ b (last x before value after _ a v z e) m found rest good room =
      let tail = after ++ close ∷ rest in
      let text : b ++ close ∷ rest ≡ before ++ (value ++ tail) = ap (λ y. y ++ close ∷ rest) e ∙ simp append_assoc in
      let here = reach (b ++ close ∷ rest) before value tail a (begins x value tail v) text in
      let read = reads found x [] value tail good v (ends_run after (close ∷ rest) z (ends_close rest)) in
      ap (items_at (close ∷ []) item (suc m) found) here
      ∙ turn (close ∷ []) item m found (found ++ x ∷ []) (value ++ tail) tail (close ∷ rest) x (Some rest) _ read (sym (skip_run after (close ∷ rest) z ∙ not_space rest)) refl (closes rest) refl
  series_complete _ b (next x xs before value after more _ a v z items e) m found rest good room =
      let left = more ++ close ∷ rest in
      let tail = after ++ 44 ∷ left in
      let text : b ++ close ∷ rest ≡ before ++ (value ++ tail) = ap (λ y. y ++ close ∷ rest) e ∙ simp append_assoc in
      let here = reach (b ++ close ∷ rest) before value tail a (begins x value tail v) text in
      let read = reads found x xs value tail good v (ends_run after (44 ∷ left) z (inr (inl refl))) in
      let first : length (skip_spaces (b ++ close ∷ rest)) ≡ length value + (length after + suc (length left)) = ap length here ∙ length-append value tail ∙ ap (λ k. length value + k) (length-append after (44 ∷ left)) in
      let enough : m ≡ suc (m - 1) = omega arith in
      let all = found ++ x ∷ [] in
      let whole : found ++ (x ∷ xs) ≡ all ++ xs = sym (append_assoc found (x ∷ []) xs) in
      let later = series_complete xs more items (m - 1) all rest (subst I whole good) (omega (arith, skip_spaces-le left)) in
      ap (items_at (close ∷ []) item (suc m) found) here
      ∙ turn (close ∷ []) item m found all (value ++ tail) tail (44 ∷ left) x None (Some left) read (sym (skip_run after (44 ∷ left) z)) refl (no_comma left) refl
      ∙ ap (λ k. items_at (close ∷ []) item k all (skip_spaces left)) enough ∙ later ∙ ap (λ ys. Ok (ys, rest)) (sym whole)

  pub list_complete : (xs : List A) (b rest : List ℕ) → Series P xs b → I xs → list_at (close ∷ []) item (b ++ close ∷ rest) ≡ Ok (xs, rest)
  list_complete xs b rest items good =
      let t = skip_spaces (b ++ close ∷ rest) in
      list_is (close ∷ []) item (b ++ close ∷ rest) t None refl (not_closed close t which (series_begins xs b (close ∷ rest) items)) ∙ series_complete xs b items (length t) [] rest good (omega arith)

  pub empty_complete : (b rest : List ℕ) → AreSpaces b → list_at (close ∷ []) item (b ++ close ∷ rest) ≡ Ok ([], rest)
  empty_complete b rest spaces = list_is (close ∷ []) item (b ++ close ∷ rest) (close ∷ rest) (Some rest) (sym (skip_run b (close ∷ rest) spaces ∙ not_space rest)) (closes rest)

  -- ---- lists that go on

  series_reaches : (xs : List A) (b : List ℕ) → Series P xs b → (m : ℕ) (found : List A) (w s : List ℕ) → I (found ++ xs) → AreSpaces w → Begins s → length (skip_spaces (b ++ 44 ∷ (w ++ s))) ≤ m
      → (k : ℕ) × (length s < k) × (items_at (close ∷ []) item (suc m) found (skip_spaces (b ++ 44 ∷ (w ++ s))) ≡ items_at (close ∷ []) item k (found ++ xs) s)
  series_reaches _ b (last x before value after _ a v z e) m found w s good spaces start room =
      let left = w ++ s in
      let tail = after ++ 44 ∷ left in
      let text : b ++ 44 ∷ left ≡ before ++ (value ++ tail) = ap (λ y. y ++ 44 ∷ left) e ∙ simp append_assoc in
      let here = reach (b ++ 44 ∷ left) before value tail a (begins x value tail v) text in
      let read = reads found x [] value tail good v (ends_run after (44 ∷ left) z (inr (inl refl))) in
      let first : length (skip_spaces (b ++ 44 ∷ left)) ≡ length value + (length after + suc (length w + length s)) =
      ap length here ∙ length-append value tail ∙ ap (λ k. length value + k) (length-append after (44 ∷ left) ∙ ap (λ k. length after + suc k) (length-append w s)) in (
        m,
        omega (arith, first, room),
        ap (items_at (close ∷ []) item (suc m) found) here
            ∙ turn (close ∷ []) item m found (found ++ x ∷ []) (value ++ tail) tail (44 ∷ left) x None (Some left) read (sym (skip_run after (44 ∷ left) z)) refl (no_comma left) refl
            ∙ ap (items_at (close ∷ []) item m (found ++ x ∷ [])) (skip_run w s spaces ∙ skip_none s start),
      )
  series_reaches _ b (next x xs before value after more _ a v z items e) m found w s good spaces start room =
      let left = more ++ 44 ∷ (w ++ s) in
      let tail = after ++ 44 ∷ left in
      let text : b ++ 44 ∷ (w ++ s) ≡ before ++ (value ++ tail) = ap (λ y. y ++ 44 ∷ (w ++ s)) e ∙ simp append_assoc in
      let here = reach (b ++ 44 ∷ (w ++ s)) before value tail a (begins x value tail v) text in
      let read = reads found x xs value tail good v (ends_run after (44 ∷ left) z (inr (inl refl))) in
      let first : length (skip_spaces (b ++ 44 ∷ (w ++ s))) ≡ length value + (length after + suc (length left)) = ap length here ∙ length-append value tail ∙ ap (λ k. length value + k) (length-append after (44 ∷ left)) in
      let enough : m ≡ suc (m - 1) = omega (arith, first, room) in
      let all = found ++ x ∷ [] in
      let whole : found ++ (x ∷ xs) ≡ all ++ xs = sym (append_assoc found (x ∷ []) xs) in
      let (k, lt, later) = series_reaches xs more items (m - 1) all w s (subst I whole good) spaces start (omega (arith, skip_spaces-le left, first, room)) in (
        k,
        lt,
        ap (items_at (close ∷ []) item (suc m) found) here
            ∙ turn (close ∷ []) item m found all (value ++ tail) tail (44 ∷ left) x None (Some left) read (sym (skip_run after (44 ∷ left) z)) refl (no_comma left) refl
            ∙ ap (λ j. items_at (close ∷ []) item j all (skip_spaces left)) enough ∙ later ∙ ap (λ ys. items_at (close ∷ []) item k ys s) (sym whole),
      )

  -- what was spelled before the next item is read up to it
  pub series_so_far : (xs : List A) (b w s : List ℕ) → Series P xs b → I xs → AreSpaces w → Begins s → SoFar (close ∷ []) item xs (b ++ 44 ∷ (w ++ s)) s
  series_so_far xs b w s items good spaces start =
      let t = skip_spaces (b ++ 44 ∷ (w ++ s)) in
      let (k, lt, later) = series_reaches xs b items (length t) [] w s good spaces start (omega arith) in
      (k, lt, list_is (close ∷ []) item (b ++ 44 ∷ (w ++ s)) t None refl (not_closed close t which (series_begins xs b (44 ∷ (w ++ s)) items)) ∙ later)
