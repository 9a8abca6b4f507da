-- Pairs set one after the other, and the pairs merged.
use Rattle.std.proofs.Common.{◌≡◌, ◌<◌, ℕ, ◌+◌, Bool, true, false, List, [], ◌∷◌, ◌++◌, length, take, get_or, refl, sym, ◌∙◌, ap, if◌then◌else◌}
use Rattle.std.specs.List.{flat_map}
use Rattle.std.specs.Str.{bytes_eq}
use Rattle.std.proofs.lemmas.Bool.{cond-true, cond-false, true≢false}
use Rattle.std.proofs.lemmas.List.{flat_map_more, take_more}
use Rattle.std.proofs.lemmas.Slice.Eq.{bytes_eq-Decides}
use Rattle.jtext.specs.declared.json.Json.{Json}
use Rattle.jtext.specs.Edit.{set_pair}
use Rattle.scrap_book.specs.Merging.{last_value, with_other_names, merged, with_pairs}

-- ---- pairs set one after the other

-- in two goes
pub with-both : (fields ps qs : List (List ℕ × Json)) → with_pairs fields (ps ++ qs) ≡ with_pairs (with_pairs fields ps) qs
with-both fields [] qs = refl
with-both fields (p ∷ ps) qs = with-both (set_pair p.0 p.1 fields) ps qs

-- those of one item more
pub each_more : {X : Type 0} (f : X → List (List ℕ × Json)) (xs : List X) (i : ℕ) (x : X) (start old new : List (List ℕ × Json))
    → i < length xs → x ≡ get_or xs i x
    → old ≡ with_pairs start (flat_map f (take i xs)) → new ≡ with_pairs old (f x)
    → new ≡ with_pairs start (flat_map f (take (i + 1) xs))
each_more f xs i x start old new below is before after =
    after ∙ ap (λ fields. with_pairs fields (f x)) before
    ∙ sym (with-both start (flat_map f (take i xs)) (f x))
    ∙ ap (with_pairs start) (flat_map_more f [] (take i xs) x)
    ∙ ap (λ ys. with_pairs start (flat_map f ys)) (sym (take_more xs i x below ∙ ap (λ y. take i xs ++ y ∷ []) (sym is)))

-- ---- the first field keeps its place

first_stays : (name : List ℕ) (v : Json) (fields qs : List (List ℕ × Json))
    → with_pairs ((name, v) ∷ fields) qs ≡ (name, last_value name v qs) ∷ with_pairs fields (with_other_names name qs)
first_stays name v fields [] = refl
first_stays name v fields (q ∷ qs) =
    by (bytes_eq name q.0) (first_stays name q.1 fields qs) (first_stays name v (set_pair q.0 q.1 fields) qs)
  where
    by : (b : Bool)
        → with_pairs ((name, q.1) ∷ fields) qs ≡ (name, last_value name q.1 qs) ∷ with_pairs fields (with_other_names name qs)
        → with_pairs ((name, v) ∷ set_pair q.0 q.1 fields) qs
        ≡ (name, last_value name v qs) ∷ with_pairs (set_pair q.0 q.1 fields) (with_other_names name qs)
        → with_pairs (if b then (name, q.1) ∷ fields else (name, v) ∷ set_pair q.0 q.1 fields) qs
        ≡ (name, last_value name (if b then q.1 else v) qs)
        ∷ with_pairs fields (if b then with_other_names name qs else q ∷ with_other_names name qs)
    by true same other = same
    by false same other = other

-- ---- fields of other names

-- a pair of this name is none of them
same_left : (name : List ℕ) (v : Json) (ps : List (List ℕ × Json))
    → with_other_names name (set_pair name v ps) ≡ with_other_names name ps
same_left name v [] = cond-true (bytes_eq name name) [] ((name, v) ∷ []) ((bytes_eq-Decides name name).1 refl)
same_left name v (p ∷ ps) = by (bytes_eq p.0 name) refl (same_left name v ps)
  where
    by : (b : Bool) → bytes_eq p.0 name ≡ b → with_other_names name (set_pair name v ps) ≡ with_other_names name ps
        → with_other_names name (if b then (p.0, v) ∷ ps else p ∷ set_pair name v ps) ≡ with_other_names name (p ∷ ps)
    by true e more =
        let here = (bytes_eq-Decides name p.0).1 (sym ((bytes_eq-Decides p.0 name).0 e)) in
        cond-true (bytes_eq name p.0) (with_other_names name ps) ((p.0, v) ∷ with_other_names name ps) here
        ∙ sym (cond-true (bytes_eq name p.0) (with_other_names name ps) (p ∷ with_other_names name ps) here)
    by false e more = ap (λ rest. if bytes_eq name p.0 then rest else p ∷ rest) more

-- a pair of another name is set before or after
other_set : (name key : List ℕ) (v : Json) (ps : List (List ℕ × Json)) → bytes_eq name key ≡ false
    → set_pair key v (with_other_names name ps) ≡ with_other_names name (set_pair key v ps)
other_set name key v [] other = sym (cond-false (bytes_eq name key) [] ((key, v) ∷ []) other)
other_set name key v (p ∷ ps) other =
    by (bytes_eq name p.0) (bytes_eq p.0 key) refl refl (other_set name key v ps other)
  where
    by : (b d : Bool) → bytes_eq name p.0 ≡ b → bytes_eq p.0 key ≡ d
        → set_pair key v (with_other_names name ps) ≡ with_other_names name (set_pair key v ps)
        → set_pair key v (if b then with_other_names name ps else p ∷ with_other_names name ps)
        ≡ with_other_names name (if d then (p.0, v) ∷ ps else p ∷ set_pair key v ps)
    by true true e f more =
        absurd (true≢false (sym ((bytes_eq-Decides name key).1 ((bytes_eq-Decides name p.0).0 e ∙ (bytes_eq-Decides p.0 key).0 f)) ∙ other))
    by true false e f more =
        more
        ∙ sym (cond-true (bytes_eq name p.0) (with_other_names name (set_pair key v ps)) (p ∷ with_other_names name (set_pair key v ps)) e)
    by false true e f more =
        cond-true (bytes_eq p.0 key) ((p.0, v) ∷ with_other_names name ps) (p ∷ set_pair key v (with_other_names name ps)) f
        ∙ sym (cond-false (bytes_eq name p.0) (with_other_names name ps) ((p.0, v) ∷ with_other_names name ps) e)
    by false false e f more =
        cond-false (bytes_eq p.0 key) ((p.0, v) ∷ with_other_names name ps) (p ∷ set_pair key v (with_other_names name ps)) f
        ∙ ap (λ r. p ∷ r) more
        ∙ sym (cond-false (bytes_eq name p.0) (with_other_names name (set_pair key v ps)) (p ∷ with_other_names name (set_pair key v ps)) e)

-- they are set by the pairs of other names
others_set : (name : List ℕ) (fields qs : List (List ℕ × Json))
    → with_pairs (with_other_names name fields) (with_other_names name qs) ≡ with_other_names name (with_pairs fields qs)
others_set name fields [] = refl
others_set name fields (q ∷ qs) = by (bytes_eq name q.0) refl (others_set name (set_pair q.0 q.1 fields) qs)
  where
    by : (b : Bool) → bytes_eq name q.0 ≡ b
        → with_pairs (with_other_names name (set_pair q.0 q.1 fields)) (with_other_names name qs)
        ≡ with_other_names name (with_pairs (set_pair q.0 q.1 fields) qs)
        → with_pairs (with_other_names name fields) (if b then with_other_names name qs else q ∷ with_other_names name qs)
        ≡ with_other_names name (with_pairs (set_pair q.0 q.1 fields) qs)
    by true e more =
        ap (λ fs. with_pairs fs (with_other_names name qs))
        (sym (ap (λ key. with_other_names name (set_pair key q.1 fields)) (sym ((bytes_eq-Decides name q.0).0 e)) ∙ same_left name q.1 fields))
        ∙ more
    by false e more =
        ap (λ fs. with_pairs fs (with_other_names name qs)) (other_set name q.0 q.1 fields e) ∙ more

-- ---- merged

-- pairs set one after the other in no fields are the pairs merged
pub set_is_merged : (ps : List (List ℕ × Json)) → with_pairs [] ps ≡ merged ps
set_is_merged [] = refl
set_is_merged (p ∷ ps) =
    first_stays p.0 p.1 [] ps
    ∙ ap (λ rest. (p.0, last_value p.0 p.1 ps) ∷ rest) (others_set p.0 [] ps ∙ ap (with_other_names p.0) (set_is_merged ps))
