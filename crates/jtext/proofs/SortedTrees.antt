-- Trees with the pairs of each object in the order of their keys: a level of each kind, and distinct keys.
use Rattle.std.proofs.Common.{◌≡◌, ◌≢◌, ℕ, Bool, true, false, cond, List, [], ◌∷◌, map, sym, ap, ◌∙◌, rules, is_gt}
use Rattle.jtext.specs.declared.json.Json.{Json, the_lemmas}
use Rattle.jtext.specs.declared.json.Json.TheVariants as json
use Rattle.jtext.specs.Grammar.{Lacks, Distinct}
use Rattle.jtext.specs.Sorting.{byte_order, insert_sorted, by_key, sort_tree}
use Rattle.jtext.proofs.Sorts.{all-insert_sorted, all-sort_by, sort_by-map}

pub sorted-Null : sort_tree json.Null ≡ json.Null
sorted-Null = search (rules, the_lemmas)

pub sorted-Bool : (b : Bool) → sort_tree (json.Bool b) ≡ json.Bool b
sorted-Bool b = search (rules, the_lemmas)

pub sorted-Num : (s : List ℕ) → sort_tree (json.Num s) ≡ json.Num s
sorted-Num s = search (rules, the_lemmas)

pub sorted-Str : (s : List ℕ) → sort_tree (json.Str s) ≡ json.Str s
sorted-Str s = search (rules, the_lemmas)

pub sorted-Arr : (xs : List Json) → sort_tree (json.Arr xs) ≡ json.Arr (map sort_tree xs)
sorted-Arr xs = search (rules, the_lemmas)

-- a pair with its value sorted
abbrev pub with_sorted : List ℕ × Json → List ℕ × Json
with_sorted p = (p.0, sort_tree p.1)

pub sorted-Obj : (ps : List (List ℕ × Json))
    → sort_tree (json.Obj ps) ≡ json.Obj (by_key (map with_sorted ps))
sorted-Obj ps = search (rules, the_lemmas)

-- to sort the values and then the pairs is to sort the pairs and then the values
pub sorted_pairs-Obj : (ps : List (List ℕ × Json))
    → sort_tree (json.Obj ps) ≡ json.Obj (map with_sorted (by_key ps))
sorted_pairs-Obj ps =
    sorted-Obj ps ∙ ap json.Obj (sort_by-map (λ p q. byte_order p.0 q.0) with_sorted ps)

-- ---- distinct keys

pub lacks-map : (key : List ℕ) (ps : List (List ℕ × Json)) → Lacks key ps → Lacks key (map with_sorted ps)
lacks-map key [] l = tt
lacks-map key (p ∷ ps) l = (l.0, lacks-map key ps l.1)

pub distinct-map : (ps : List (List ℕ × Json)) → Distinct ps → Distinct (map with_sorted ps)
distinct-map [] d = tt
distinct-map (p ∷ ps) d = (lacks-map p.0 ps d.0, distinct-map ps d.1)

distinct-insert : (p : List ℕ × Json) (ps : List (List ℕ × Json)) → Lacks p.0 ps → Distinct ps → Distinct (insert_sorted (λ a b. byte_order a.0 b.0) p ps)
distinct-insert p [] l d = (tt, tt)
distinct-insert p (q ∷ qs) l d =
    elim (is_gt (byte_order p.0 q.0)) as (λ b. Distinct (cond b (q ∷ insert_sorted (λ a c. byte_order a.0 c.0) p qs) (p ∷ q ∷ qs))) [
      | true ↦ (all-insert_sorted (λ a b. byte_order a.0 b.0) (λ r. r.0 ≢ q.0) p qs (λ e. l.0 (sym e)) d.0, distinct-insert p qs l.1 d.1)
      | false ↦ (l, d)
    ]

pub distinct-by_key : (ps : List (List ℕ × Json)) → Distinct ps → Distinct (by_key ps)
distinct-by_key [] d = tt
distinct-by_key (p ∷ ps) d = distinct-insert p (by_key ps) (all-sort_by (λ a b. byte_order a.0 b.0) (λ q. q.0 ≢ p.0) ps d.0) (distinct-by_key ps d.1)
