-- Marks that are set again: of two runs' marks the last one's stand.
use Rattle.std.proofs.Common.{◌≡◌, ℕ, Bool, true, false, List, [], ◌∷◌, Some, refl, sym, ap, ◌∙◌, inl, inr}
use Rattle.std.specs.Prelude.{codes, unwrap_or}
use Rattle.std.specs.Str.{bytes_eq}
use Rattle.std.proofs.lemmas.Bool.{cases_Bool, cond-true, cond-false}
use Rattle.std.proofs.lemmas.Slice.Eq.{bytes_eq-Decides}
use Rattle.jtext.specs.declared.json.Json.{Json}
use Rattle.jtext.specs.declared.json.Json.TheVariants as json
use Rattle.jtext.specs.Find.{find, field, fields}
use Rattle.jtext.specs.Edit.{set_pair, set_field, set_within}
use Rattle.jtext.proofs.Edits.{set_pair-twice}
use Rattle.nb_model.proofs.PreparedLaws.{fields_Obj, field-set_other}
use Rattle.progress_save.specs.Prefix.{with_status, with_mark}
use Rattle.jtext.proofs.Equals.{same_bytes}

-- ---- pairs

-- the key that stands in this pair isn't the other one
not_other : (p a b : List ℕ) → bytes_eq a b ≡ false → bytes_eq p a ≡ true → bytes_eq p b ≡ false
not_other p a b ne e = ap (λ k. bytes_eq k b) ((bytes_eq-Decides p a).0 e) ∙ ne

-- a value that is set again keeps its place before or behind another one
set_pair-swap : (a b : List ℕ) (u v w : Json) → bytes_eq a b ≡ false → (ps : List (List ℕ × Json))
    → set_pair a v (set_pair b w (set_pair a u ps)) ≡ set_pair b w (set_pair a v ps)
set_pair-swap a b u v w ne [] =
    ap (set_pair a v) (cond-false (bytes_eq a b) ((a, w) ∷ []) ((a, u) ∷ (b, w) ∷ []) ne)
    ∙ cond-true (bytes_eq a a) ((a, v) ∷ (b, w) ∷ []) ((a, u) ∷ set_pair a v ((b, w) ∷ [])) (same_bytes a)
    ∙ sym (cond-false (bytes_eq a b) ((a, w) ∷ []) ((a, v) ∷ (b, w) ∷ []) ne)
set_pair-swap a b u v w ne (p ∷ ps) = elim (cases_Bool (bytes_eq p.0 a)) [
  | inl t ↦
      let other : bytes_eq p.0 b ≡ false = not_other p.0 a b ne t in
      ap (λ qs. set_pair a v (set_pair b w qs)) (cond-true (bytes_eq p.0 a) ((p.0, u) ∷ ps) (p ∷ set_pair a u ps) t)
      ∙ ap (set_pair a v) (cond-false (bytes_eq p.0 b) ((p.0, w) ∷ ps) ((p.0, u) ∷ set_pair b w ps) other)
      ∙ cond-true (bytes_eq p.0 a) ((p.0, v) ∷ set_pair b w ps) ((p.0, u) ∷ set_pair a v (set_pair b w ps)) t
      ∙ sym (cond-false (bytes_eq p.0 b) ((p.0, w) ∷ ps) ((p.0, v) ∷ set_pair b w ps) other)
      ∙ ap (set_pair b w) (sym (cond-true (bytes_eq p.0 a) ((p.0, v) ∷ ps) (p ∷ set_pair a v ps) t))
  | inr f ↦
      ap (λ qs. set_pair a v (set_pair b w qs)) (cond-false (bytes_eq p.0 a) ((p.0, u) ∷ ps) (p ∷ set_pair a u ps) f)
      ∙ behind (set_pair-swap a b u v w ne ps) f
      ∙ ap (set_pair b w) (sym (cond-false (bytes_eq p.0 a) ((p.0, v) ∷ ps) (p ∷ set_pair a v ps) f))
]
  where
    behind : set_pair a v (set_pair b w (set_pair a u ps)) ≡ set_pair b w (set_pair a v ps) → bytes_eq p.0 a ≡ false → set_pair a v (set_pair b w (p ∷ set_pair a u ps)) ≡ set_pair b w (p ∷ set_pair a v ps)
    behind rest f = elim (cases_Bool (bytes_eq p.0 b)) [
      | inl t ↦
          ap (set_pair a v) (cond-true (bytes_eq p.0 b) ((p.0, w) ∷ set_pair a u ps) (p ∷ set_pair b w (set_pair a u ps)) t)
          ∙ cond-false (bytes_eq p.0 a) ((p.0, v) ∷ set_pair a u ps) ((p.0, w) ∷ set_pair a v (set_pair a u ps)) f
          ∙ ap (λ qs. (p.0, w) ∷ qs) (set_pair-twice a v u ps)
          ∙ sym (cond-true (bytes_eq p.0 b) ((p.0, w) ∷ set_pair a v ps) (p ∷ set_pair b w (set_pair a v ps)) t)
      | inr g ↦
          ap (set_pair a v) (cond-false (bytes_eq p.0 b) ((p.0, w) ∷ set_pair a u ps) (p ∷ set_pair b w (set_pair a u ps)) g)
          ∙ cond-false (bytes_eq p.0 a) ((p.0, v) ∷ set_pair b w (set_pair a u ps)) (p ∷ set_pair a v (set_pair b w (set_pair a u ps))) f
          ∙ ap (λ qs. p ∷ qs) rest
          ∙ sym (cond-false (bytes_eq p.0 b) ((p.0, w) ∷ set_pair a v ps) (p ∷ set_pair b w (set_pair a v ps)) g)
    ]

find-set : (key : List ℕ) (v : Json) (ps : List (List ℕ × Json)) → find key (set_pair key v ps) ≡ Some v
find-set key v [] = cond-true (bytes_eq key key) (Some v) (find key []) (same_bytes key)
find-set key v (p ∷ ps) = elim (cases_Bool (bytes_eq p.0 key)) [
  | inl t ↦
      ap (find key) (cond-true (bytes_eq p.0 key) ((p.0, v) ∷ ps) (p ∷ set_pair key v ps) t)
      ∙ cond-true (bytes_eq p.0 key) (Some v) (find key ps) t
  | inr f ↦
      ap (find key) (cond-false (bytes_eq p.0 key) ((p.0, v) ∷ ps) (p ∷ set_pair key v ps) f)
      ∙ cond-false (bytes_eq p.0 key) (Some p.1) (find key (set_pair key v ps)) f
      ∙ find-set key v ps
]

-- ---- objects

set_field-twice : (key : List ℕ) (v w t : Json) → set_field key v (set_field key w t) ≡ set_field key v t
set_field-twice key v w t = ap (λ ps. json.Obj (set_pair key v ps)) (fields_Obj (set_pair key w (fields t))) ∙ ap (λ ps. json.Obj ps) (set_pair-twice key v w (fields t))

set_field-swap : (a b : List ℕ) (u v w t : Json) → bytes_eq a b ≡ false → set_field a v (set_field b w (set_field a u t)) ≡ set_field b w (set_field a v t)
set_field-swap a b u v w t ne =
    ap (λ ps. json.Obj (set_pair a v ps)) (fields_Obj (set_pair b w (fields (set_field a u t))))
    ∙ ap (λ ps. json.Obj (set_pair a v (set_pair b w ps))) (fields_Obj (set_pair a u (fields t)))
    ∙ ap (λ ps. json.Obj ps) (set_pair-swap a b u v w ne (fields t))
    ∙ ap (λ ps. json.Obj (set_pair b w ps)) (sym (fields_Obj (set_pair a v (fields t))))

field-set : (key : List ℕ) (v t : Json) → field (set_field key v t) key ≡ Some v
field-set key v t = ap (find key) (fields_Obj (set_pair key v (fields t))) ∙ find-set key v (fields t)

-- ---- marks

abbrev pap : List ℕ
pap = codes "papermill"

abbrev exec : List ℕ
exec = codes "execution"

-- what stands under `papermill`
abbrev mark_in : Json → Json
mark_in m = unwrap_or (field m pap) json.Null

-- the object of a mark, set on this one
abbrev mark : List ℕ → Bool → Json → Json
mark status failed x = set_field (codes "status") (json.Str status) (set_field (codes "exception") (json.Bool failed) x)

status_is : (status : List ℕ) (failed : Bool) (m : Json) → with_status status failed m ≡ set_field pap (mark status failed (mark_in m)) m
status_is status failed m =
    let first : Json = set_field (codes "exception") (json.Bool failed) (mark_in m) in
    ap (λ o. set_field pap (set_field (codes "status") (json.Str status) (unwrap_or o json.Null)) (set_field pap first m)) (field-set pap first m)
    ∙ set_field-twice pap (mark status failed (mark_in m)) first m

-- of two marks the last one stands
mark-twice : (s t : List ℕ) (f g : Bool) (x : Json) → mark t g (mark s f x) ≡ mark t g x
mark-twice s t f g x =
    ap (set_field (codes "status") (json.Str t)) (set_field-swap (codes "exception") (codes "status") (json.Bool f) (json.Bool g) (json.Str s) x refl)
    ∙ set_field-twice (codes "status") (json.Str t) (json.Str s) (set_field (codes "exception") (json.Bool g) x)

status-twice : (s t : List ℕ) (f g : Bool) (m : Json) → with_status t g (with_status s f m) ≡ with_status t g m
status-twice s t f g m =
    let x : Json = mark s f (mark_in m) in
    ap (with_status t g) (status_is s f m)
    ∙ status_is t g (set_field pap x m)
    ∙ ap (λ o. set_field pap (mark t g (unwrap_or o json.Null)) (set_field pap x m)) (field-set pap x m)
    ∙ set_field-twice pap (mark t g x) x m
    ∙ ap (λ y. set_field pap y m) (mark-twice s t f g (mark_in m))
    ∙ sym (status_is t g m)

-- dates that are set again after a mark
status-dates : (s : List ℕ) (f : Bool) (d e m : Json) → set_field exec e (with_status s f (set_field exec d m)) ≡ with_status s f (set_field exec e m)
status-dates s f d e m =
    let under : (v : Json) → mark_in (set_field exec v m) ≡ mark_in m = λ v. ap (λ o. unwrap_or o json.Null) (field-set_other pap exec v m refl) in
    ap (set_field exec e) (status_is s f (set_field exec d m) ∙ ap (λ x. set_field pap (mark s f x) (set_field exec d m)) (under d))
    ∙ set_field-swap exec pap d e (mark s f (mark_in m)) m refl
    ∙ ap (λ x. set_field pap (mark s f x) (set_field exec e m)) (sym (under e))
    ∙ sym (status_is s f (set_field exec e m))

pub mark_again : (b c : Bool) (m : Json) → with_mark c (with_mark b m) ≡ with_mark c m
mark_again true true m = status-twice _ _ _ _ m
mark_again true false m = status-twice _ _ _ _ m
mark_again false true m = status-twice _ _ _ _ m
mark_again false false m = status-twice _ _ _ _ m

pub mark_and_dates_again : (b c : Bool) (d e m : Json) → with_mark c (set_field exec e (with_mark b (set_field exec d m))) ≡ with_mark c (set_field exec e m)
mark_and_dates_again true c d e m = ap (with_mark c) (status-dates _ _ d e m) ∙ mark_again true c (set_field exec e m)
mark_and_dates_again false c d e m = ap (with_mark c) (status-dates _ _ d e m) ∙ mark_again false c (set_field exec e m)

-- a mark changes no other value
pub mark_elsewhere : (b : Bool) (key : List ℕ) (m : Json) → bytes_eq pap key ≡ false → field (with_mark b m) key ≡ field m key
mark_elsewhere true key m ne = field-set_other key pap _ (set_within pap (codes "exception") (json.Bool true) m) ne ∙ field-set_other key pap _ m ne
mark_elsewhere false key m ne = field-set_other key pap _ (set_within pap (codes "exception") (json.Bool false) m) ne ∙ field-set_other key pap _ m ne
