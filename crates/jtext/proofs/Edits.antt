-- Setting the value of a key, at the place where the key is found.
use Rattle.std.proofs.Common.{◌≡◌, ℕ, zero, suc, ◌+◌, ◌<◌, Bool, true, false, cond, List, [], ◌∷◌, ◌++◌, Option, Some, None, length, get_or, set, slice_get, refl, sym, ap, ◌∙◌, inl, inr, arith}
use Rattle.std.specs.List.{position, position_from}
use Rattle.std.specs.Str.{bytes_eq}
use Rattle.std.proofs.lemmas.Bool.{cases_Bool, cond-true, cond-false}
use Rattle.std.proofs.lemmas.List.Quantifiers.{position-Some}
use Rattle.std.proofs.lemmas.Iterator.Adapters.{position_from-zero}
use Rattle.std.proofs.lemmas.Slice.Eq.{bytes_eq-Decides}
use Rattle.jtext.specs.declared.json.Json.{Json}
use Rattle.jtext.specs.declared.json.Json.TheVariants as json
use Rattle.jtext.specs.Find.{find}
use Rattle.jtext.specs.Edit.{set_pair}
use Rattle.jtext.proofs.Equals.{same_bytes}

-- the pair that stands for one beyond the end
pub no_pair : List ℕ × Json
no_pair = ([], json.Null)

-- ---- the key is there

value_at : (key : List ℕ) (ps : List (List ℕ × Json)) (i : ℕ) (p : List ℕ × Json)
    → bytes_eq (get_or ps i no_pair).0 key ≡ true
    → ((k : ℕ) → k < i → bytes_eq (get_or ps k no_pair).0 key ≡ false)
    → slice_get ps i ≡ Some p → find key ps ≡ Some p.1
value_at key [] i p here none e = cc
value_at key (q ∷ qs) zero p here none e =
    cond-true (bytes_eq q.0 key) (Some q.1) (find key qs) here
    ∙ (let same : q ≡ p = cc in ap (λ r. Some r.1) same)
value_at key (q ∷ qs) (suc i) p here none e =
    cond-false (bytes_eq q.0 key) (Some q.1) (find key qs) (none 0 (omega arith))
    ∙ value_at key qs i p here (λ k below. none (suc k) (omega arith)) e

set_at : (key : List ℕ) (v : Json) (ps : List (List ℕ × Json)) (i : ℕ) → i < length ps
    → bytes_eq (get_or ps i no_pair).0 key ≡ true
    → ((k : ℕ) → k < i → bytes_eq (get_or ps k no_pair).0 key ≡ false)
    → set ps i (key, v) ≡ set_pair key v ps
set_at key v [] i lt here none = absurd (omega arith)
set_at key v (q ∷ qs) zero lt here none =
    ap (λ k. (k, v) ∷ qs) (sym ((bytes_eq-Decides q.0 key).0 here))
    ∙ sym (cond-true (bytes_eq q.0 key) ((q.0, v) ∷ qs) (q ∷ set_pair key v qs) here)
set_at key v (q ∷ qs) (suc i) lt here none =
    ap (λ l. q ∷ l) (set_at key v qs i (omega arith) here (λ k below. none (suc k) (omega arith)))
    ∙ sym (cond-false (bytes_eq q.0 key) ((q.0, v) ∷ qs) (q ∷ set_pair key v qs) (none 0 (omega arith)))

-- the pair at the place of the key has the value that is found
pub find-at : (key : List ℕ) (ps : List (List ℕ × Json)) (i : ℕ) (p : List ℕ × Json)
    → position (λ q. bytes_eq q.0 key) ps ≡ Some i → slice_get ps i ≡ Some p
    → find key ps ≡ Some p.1
find-at key ps i p e at =
    let is = position-Some (λ q. bytes_eq q.0 key) ps i no_pair e in value_at key ps i p is.1 is.2 at

-- to put the pair at the place of the key is to set its value
pub set_pair-at : (key : List ℕ) (v : Json) (ps : List (List ℕ × Json)) (i : ℕ)
    → position (λ q. bytes_eq q.0 key) ps ≡ Some i → set ps i (key, v) ≡ set_pair key v ps
set_pair-at key v ps i e =
    let is = position-Some (λ q. bytes_eq q.0 key) ps i no_pair e in set_at key v ps i is.0 is.1 is.2

-- ---- the key is absent

-- it isn't the first
pub not_first : {A : Type 0} (b : Bool) (i : A) (r : Option A) → cond b (Some i) r ≡ None
    → (b ≡ false) × (r ≡ None)
not_first true i r e = cc
not_first false i r e = (refl, e)

absent_from : (key : List ℕ) (v : Json) (ps : List (List ℕ × Json)) (i : ℕ)
    → position_from (λ q. bytes_eq q.0 key) i ps ≡ None
    → (find key ps ≡ None) × (ps ++ (key, v) ∷ [] ≡ set_pair key v ps)
absent_from key v [] i e = (refl, refl)
absent_from key v (q ∷ qs) i e =
    let h = not_first (bytes_eq q.0 key) i (position_from (λ q. bytes_eq q.0 key) (i + 1) qs) e in
    let more = absent_from key v qs (i + 1) h.1 in (
      cond-false (bytes_eq q.0 key) (Some q.1) (find key qs) h.0 ∙ more.0,
      ap (λ l. q ∷ l) more.1 ∙ sym (cond-false (bytes_eq q.0 key) ((q.0, v) ∷ qs) (q ∷ set_pair key v qs) h.0),
    )

-- nothing is found under a key that has no place
pub find-none : (key : List ℕ) (ps : List (List ℕ × Json))
    → position (λ q. bytes_eq q.0 key) ps ≡ None → find key ps ≡ None
find-none key ps e = (absent_from key json.Null ps 0 (sym (position_from-zero (λ q. bytes_eq q.0 key) ps) ∙ e)).0

-- a key that has no place gets its value at the end
pub set_pair-none : (key : List ℕ) (v : Json) (ps : List (List ℕ × Json))
    → position (λ q. bytes_eq q.0 key) ps ≡ None → ps ++ (key, v) ∷ [] ≡ set_pair key v ps
set_pair-none key v ps e = (absent_from key v ps 0 (sym (position_from-zero (λ q. bytes_eq q.0 key) ps) ∙ e)).1

-- ---- set twice

-- of two values set under one key the last one stands
pub set_pair-twice : (key : List ℕ) (v w : Json) (ps : List (List ℕ × Json))
    → set_pair key v (set_pair key w ps) ≡ set_pair key v ps
set_pair-twice key v w [] = cond-true (bytes_eq key key) ((key, v) ∷ []) ((key, w) ∷ set_pair key v []) (same_bytes key)
set_pair-twice key v w (p ∷ ps) =
    elim (cases_Bool (bytes_eq p.0 key)) [
      | inl t ↦ ap (set_pair key v) (cond-true (bytes_eq p.0 key) ((p.0, w) ∷ ps) (p ∷ set_pair key w ps) t)
          ∙ cond-true (bytes_eq p.0 key) ((p.0, v) ∷ ps) ((p.0, w) ∷ set_pair key v ps) t
          ∙ sym (cond-true (bytes_eq p.0 key) ((p.0, v) ∷ ps) (p ∷ set_pair key v ps) t)
      | inr f ↦ ap (set_pair key v) (cond-false (bytes_eq p.0 key) ((p.0, w) ∷ ps) (p ∷ set_pair key w ps) f)
          ∙ cond-false (bytes_eq p.0 key) ((p.0, v) ∷ set_pair key w ps) (p ∷ set_pair key v (set_pair key w ps)) f
          ∙ ap (λ l. p ∷ l) (set_pair-twice key v w ps)
          ∙ sym (cond-false (bytes_eq p.0 key) ((p.0, v) ∷ ps) (p ∷ set_pair key v ps) f)
    ]
