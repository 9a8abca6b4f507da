-- A fault that stands is what reading answers.
use Rattle.std.proofs.Common.{◌≡◌, ℕ, suc, ◌≤◌, ◌⊎◌, true, cond, List, [], ◌∷◌, ◌++◌, length, Some, Ok, Err, inl, inr, refl, sym, ap, ◌∙◌, subst, append_assoc, arith}
use Rattle.std.proofs.lemmas.Bool.{cases_Bool}
use Rattle.std.specs.Prelude.{codes}
use Rattle.std.specs.List.{AllByRecursion}
use Rattle.jtext.specs.declared.json.Json.{Json}
use Rattle.jtext.specs.declared.fault.Fault.{Fault}
use Rattle.jtext.specs.declared.fault.Fault.TheVariants.{Deep, Repeated, Lone}
use Rattle.jtext.specs.Depth.{depth}
use Rattle.jtext.specs.Readings.{Reading, ◌>>=◌}
use Rattle.jtext.specs.Strings.{string_at}
use Rattle.jtext.specs.Grammar.{Spelled, Pair, AreSpaces, Lacks}
use Rattle.jtext.specs.Reading.{skip_spaces, item_at, field_at, key_at, after_key, has_key, as_array, as_object, as_string, value_at, document_at, at_end}
use Rattle.jtext.specs.Refusal.{BeforeValue, outermost, first_item, next_item, member, BeforeKey, first_key, next_key, WithinString, in_value, in_key, IsLone, IsDeep, IsRepeated, IsAlone}
use Rattle.jtext.proofs.Standings.{free_lacks, lacks_free}
use Rattle.jtext.proofs.Lones.{string_alone}
use Rattle.jtext.proofs.StringLaws.{string_complete}
use Rattle.jtext.proofs.Series.{Begins, skip_run, skip_none, not_closed, series_so_far}
use Rattle.jtext.proofs.Turns.{SoFar, so_far_begins, list_errs, key_free, key_taken, value_string, value_array, value_object, list_deep, pairs_deep}
use Rattle.jtext.proofs.Documents.{Flat, of_items, of_pairs, begins, pair_begins, quote_begins, value_complete, item_complete, field_complete}

skipped : (w s : List ℕ) → AreSpaces w → Begins s → skip_spaces (w ++ s) ≡ s
skipped w s spaces start = skip_run w s spaces ∙ skip_none s start

value_err : (s : List ℕ) (f : Fault) (n : ℕ) (ps : List (List ℕ × Json)) (key after rest : List ℕ) → key_at (has_key ps) s ≡ Ok (key, after) → value_at n after ≡ Err f → field_at (value_at n) ps s ≡ Err f
value_err s f n ps key after rest is e =
    ap (λ r. r >>= (λ k. value_at n k.1 >>= (λ v. Ok ((k.0, v.0), v.1)))) is ∙ ap (λ r. r >>= (λ v. Ok ((key, v.0), v.1))) e

key_err : (s : List ℕ) (f : Fault) (n : ℕ) (ps : List (List ℕ × Json)) → key_at (has_key ps) s ≡ Err f → field_at (value_at n) ps s ≡ Err f
key_err s f n ps e = ap (λ r. r >>= (λ k. value_at n k.1 >>= (λ v. Ok ((k.0, v.0), v.1)))) e

abbrev key_rest : List (List ℕ × Json) → List ℕ → List ℕ × List ℕ → Reading (List ℕ)
key_rest ps s p = cond (has_key ps p.0) (Err (Repeated (length s))) (after_key p.0 p.1)

module _ (deep : ℕ) where
  mutual
    -- what is refused at a value is refused in the whole
    pub value_reaches : (room : ℕ) (left : List ℕ) → BeforeValue deep room left → (s : List ℕ) (f : Fault) → Begins s → value_at room s ≡ Err f → document_at deep (left ++ s) ≡ Err f
    value_reaches _ _ (outermost w spaces) s f start e = ap (λ x. value_at deep x >>= (λ p. at_end p.0 (skip_spaces p.1))) (skipped w s spaces start) ∙ ap (λ r. r >>= (λ p. at_end p.0 (skip_spaces p.1))) e
    value_reaches _ _ (first_item room left w b before spaces whole) s f start e =
        let far : SoFar (codes "]") (item_at (value_at room)) [] (w ++ s) s = so_far_begins (codes "]") (item_at (value_at room)) [] (w ++ s) s refl (sym (skipped w s spaces start)) (not_closed 93 s (inl refl) start) in
        let inner = list_errs (codes "]") (item_at (value_at room)) [] (w ++ s) s f far e in
        let here = value_array (suc room) (91 ∷ (w ++ s)) (w ++ s) room refl refl ∙ ap as_array inner in
        ap (document_at deep) (ap (λ x. x ++ s) whole ∙ append_assoc left (91 ∷ w) s) ∙ value_reaches (suc room) left before (91 ∷ (w ++ s)) f (refl, omega arith, omega arith) here
    value_reaches _ _ (next_item room xs left inner w b before items nests spaces whole) s f start e =
        let t = inner ++ 44 ∷ (w ++ s) in
        let far : SoFar (codes "]") (item_at (value_at room)) xs t s = series_so_far 93 (item_at (value_at room)) Spelled (AllByRecursion (λ x. depth x ≤ room)) (inl refl) begins (item_complete room (value_complete room)) xs inner w s (of_items xs inner items) nests spaces start in
        let fails = list_errs (codes "]") (item_at (value_at room)) xs t s f far e in
        let here = value_array (suc room) (91 ∷ t) t room refl refl ∙ ap as_array fails in
        let parts : (left ++ 91 ∷ (inner ++ 44 ∷ w)) ++ s ≡ left ++ 91 ∷ t = simp append_assoc in
        ap (document_at deep) (ap (λ x. x ++ s) whole ∙ parts) ∙ value_reaches (suc room) left before (91 ∷ t) f (refl, omega arith, omega arith) here
    value_reaches _ _ (member room ps key left name v w b before spelled lacks spaces_v spaces_w whole) s f start e =
        let tail = v ++ 58 ∷ (w ++ s) in
        let read = key_free (has_key ps) (name ++ tail) key tail (58 ∷ (w ++ s)) (Some (w ++ s)) (string_complete key name tail spelled) (free_lacks ps key lacks) (sym (skip_run v (58 ∷ (w ++ s)) spaces_v)) refl
        ∙ ap (λ x. Ok (key, x)) (skipped w s spaces_w start) in
        let here = value_err (name ++ tail) f room ps key s s read e in
        let parts : (left ++ (name ++ (v ++ 58 ∷ w))) ++ s ≡ left ++ (name ++ tail) = simp append_assoc in
        ap (document_at deep) (ap (λ x. x ++ s) whole ∙ parts) ∙ key_reaches room ps left before (name ++ tail) f (quote_begins key name tail spelled) here

    -- and what is refused at a key
    pub key_reaches : (room : ℕ) (ps : List (List ℕ × Json)) (left : List ℕ) → BeforeKey deep room ps left → (s : List ℕ) (f : Fault) → Begins s → field_at (value_at room) ps s ≡ Err f → document_at deep (left ++ s) ≡ Err f
    key_reaches _ _ _ (first_key room left w b before spaces whole) s f start e =
        let far : SoFar (codes "}") (field_at (value_at room)) [] (w ++ s) s = so_far_begins (codes "}") (field_at (value_at room)) [] (w ++ s) s refl (sym (skipped w s spaces start)) (not_closed 125 s (inr refl) start) in
        let inner = list_errs (codes "}") (field_at (value_at room)) [] (w ++ s) s f far e in
        let here = value_object (suc room) (123 ∷ (w ++ s)) (w ++ s) room refl refl ∙ ap as_object inner in
        ap (document_at deep) (ap (λ x. x ++ s) whole ∙ append_assoc left (123 ∷ w) s) ∙ value_reaches (suc room) left before (123 ∷ (w ++ s)) f (refl, omega arith, omega arith) here
    key_reaches _ _ _ (next_key room ps left inner w b before pairs distinct nests spaces whole) s f start e =
        let t = inner ++ 44 ∷ (w ++ s) in
        let far : SoFar (codes "}") (field_at (value_at room)) ps t s = series_so_far 125 (field_at (value_at room)) Pair (Flat room) (inr refl) pair_begins (field_complete room (value_complete room)) ps inner w s (of_pairs ps inner pairs) (distinct, nests) spaces start in
        let fails = list_errs (codes "}") (field_at (value_at room)) ps t s f far e in
        let here = value_object (suc room) (123 ∷ t) t room refl refl ∙ ap as_object fails in
        let parts : (left ++ 123 ∷ (inner ++ 44 ∷ w)) ++ s ≡ left ++ 123 ∷ t = simp append_assoc in
        ap (document_at deep) (ap (λ x. x ++ s) whole ∙ parts) ∙ value_reaches (suc room) left before (123 ∷ t) f (refl, omega arith, omega arith) here

  pub deep_found : (b : List ℕ) (n : ℕ) (h : IsDeep deep b n) → document_at deep b ≡ Err (Deep (length h.right))
  deep_found b n h = ap (document_at deep) h.split ∙ opening h.left h.before h.right h.opens
    where
      opening : (left : List ℕ) → BeforeValue deep 0 left → (right : List ℕ) → (more : List ℕ) × ((right ≡ 91 ∷ more) ⊎ (right ≡ 123 ∷ more)) → document_at deep (left ++ right) ≡ Err (Deep (length right))
      opening left before right (more, inl e) = value_reaches 0 left before right (Deep (length right)) (subst Begins (sym e) (refl, omega arith, omega arith)) (list_deep 0 right more e refl)
      opening left before right (more, inr e) = value_reaches 0 left before right (Deep (length right)) (subst Begins (sym e) (refl, omega arith, omega arith)) (pairs_deep 0 right more e refl)

  taken_is : (ps : List (List ℕ × Json)) (key : List ℕ) → (Lacks key ps → ⊥) → has_key ps key ≡ true
  taken_is ps key h = elim (cases_Bool (has_key ps key)) [ inl e ↦ e | inr e ↦ absurd (h (lacks_free ps key e)) ]

  pub repeated_found : (b : List ℕ) (n : ℕ) (h : IsRepeated deep b n) → document_at deep b ≡ Err (Repeated (length h.right))
  repeated_found b n h =
      let read : string_at h.right ≡ Ok (h.key, h.more) = ap string_at h.text ∙ string_complete h.key h.name h.more h.spelled in
      let fails = key_err h.right (Repeated (length h.right)) h.room h.pairs (key_taken (has_key h.pairs) h.right h.key h.more read (taken_is h.pairs h.key h.taken)) in
      ap (document_at deep) h.split ∙ key_reaches h.room h.pairs h.left h.before h.right (Repeated (length h.right)) (subst Begins (sym h.text) (quote_begins h.key h.name h.more h.spelled)) fails

  alone_within : (left right : List ℕ) → WithinString deep left → IsLone right → document_at deep (left ++ right) ≡ Err (Lone (length right))
  alone_within _ right (in_value room left text inner b before letters whole) is =
      let s = 34 ∷ (inner ++ right) in
      let fails = value_string room s (inner ++ right) refl ∙ ap as_string (string_alone text inner right letters is) in
      ap (document_at deep) (ap (λ x. x ++ right) whole ∙ append_assoc left (34 ∷ inner) right) ∙ value_reaches room left before s (Lone (length right)) (refl, omega arith, omega arith) fails
  alone_within _ right (in_key room ps left text inner b before letters whole) is =
      let s = 34 ∷ (inner ++ right) in
      let fails = key_err s (Lone (length right)) room ps (ap (λ r. r >>= (λ p. key_rest ps s p)) (string_alone text inner right letters is)) in
      ap (document_at deep) (ap (λ x. x ++ right) whole ∙ append_assoc left (34 ∷ inner) right) ∙ key_reaches room ps left before s (Lone (length right)) (refl, omega arith, omega arith) fails

  pub alone_found : (b : List ℕ) (n : ℕ) (h : IsAlone deep b n) → document_at deep b ≡ Err (Lone (length h.right))
  alone_found b n h = ap (document_at deep) h.split ∙ alone_within h.left h.right h.before h.alone
