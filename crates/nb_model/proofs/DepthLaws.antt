-- How deep the trees of notebooks are nested.
use Rattle.std.proofs.Common.{◌≡◌, ℕ, suc, ◌+◌, ◌≤◌, max, true, false, cond, List, [], ◌∷◌, ◌++◌, map, Option, Some, None, refl, sym, ap, ◌∙◌, inl, inr, subst, arith, is_gt}
use Rattle.std.specs.Prelude.{codes, unwrap_or}
use Rattle.std.specs.List.{AllByRecursion}
use Rattle.std.specs.Str.{bytes_eq}
use Rattle.std.proofs.lemmas.Bool.{cases_Bool}
use Rattle.jtext.specs.declared.json.Json.{Json, out-Json}
use Rattle.jtext.specs.declared.json.Json.TheVariants as json
use Rattle.jtext.specs.Depth.{depth, highest, highest_of_pairs}
use Rattle.jtext.specs.Find.{find, field, fields}
use Rattle.jtext.specs.Keyed.{Keyed}
use Rattle.jtext.specs.Sorting.{byte_order, insert_sorted, by_key}
use Rattle.jtext.specs.Look.{is_object}
use Rattle.jtext.proofs.Depths.{depth-Arr, depth-Obj, depth-Null, depth-Str, highest-le, highest-all, pairs-le, pairs-all}
use Rattle.nb_model.specs.declared.kind.Kind.{Kind}
use Rattle.nb_model.specs.declared.kind.Kind.TheVariants as kind
use Rattle.nb_model.specs.declared.cell.Cell.{Cell}
use Rattle.nb_model.specs.declared.notebook.Notebook.{Notebook}
use Rattle.nb_model.specs.Valid.{is_notebook}
use Rattle.nb_model.specs.Reading.{notebook_of}
use Rattle.nb_model.specs.Tree.{optional_pair, cell_tree, notebook_tree}
use Rattle.jtext.specs.Edit.{set_pair, set_field, set_within}
use Rattle.nb_model.specs.Prepared.{pending_mark, prepared_cell, prepared_notebook}
use Rattle.jtext.proofs.Trees.{object_is, no_fields}
use Rattle.nb_model.proofs.TreeLaws.{notebook_same, pairs_with}
use Rattle.nb_model.proofs.PreparedLaws.{prepared_with, kind_stays}

-- ---- the order of keys doesn't matter

highest-insert : (p : List ℕ × ℕ) (ps : List (List ℕ × ℕ)) → highest_of_pairs (insert_sorted (λ a b. byte_order a.0 b.0) p ps) ≡ max p.1 (highest_of_pairs ps)
highest-insert p [] = refl
highest-insert p (q ∷ qs) =
    elim (is_gt (byte_order p.0 q.0)) as (λ b. highest_of_pairs (cond b (q ∷ insert_sorted (λ a c. byte_order a.0 c.0) p qs) (p ∷ q ∷ qs)) ≡ max p.1 (max q.1 (highest_of_pairs qs))) [
      | true ↦ ap (max q.1) (highest-insert p qs) ∙ exchange q.1 p.1 (highest_of_pairs qs)
      | false ↦ refl
    ]
  where
    exchange : (a b c : ℕ) → max a (max b c) ≡ max b (max a c)
    exchange a b c = omega arith

pub highest-by_key : (ps : List (List ℕ × ℕ)) → highest_of_pairs (by_key ps) ≡ highest_of_pairs ps
highest-by_key [] = refl
highest-by_key (p ∷ ps) = highest-insert p (by_key ps) ∙ ap (max p.1) (highest-by_key ps)

depth-sorted : (ps : List (List ℕ × Json)) → depth (json.Obj ps) ≡ 1 + highest_of_pairs (by_key (map (λ p. (p.0, depth p.1)) ps))
depth-sorted ps = depth-Obj ps ∙ ap (λ n. 1 + n) (sym (highest-by_key (map (λ p. (p.0, depth p.1)) ps)))

pub read_depth : (t : Json) → is_notebook t ≡ true → Keyed t → depth (notebook_tree (notebook_of t)) ≡ depth t
read_depth = notebook_same depth (λ bs. 1 + highest_of_pairs bs) (λ ns. 1 + highest ns) depth-sorted depth-Arr

-- ---- within a bound

pub object_within : (m : ℕ) (ps : List (List ℕ × Json)) → AllByRecursion (λ p. depth p.1 ≤ m) ps → depth (json.Obj ps) ≤ suc m
object_within m ps all = omega (arith, depth-Obj ps, pairs-le m ps all)

pub values_within : (m : ℕ) (ps : List (List ℕ × Json)) → depth (json.Obj ps) ≤ suc m → AllByRecursion (λ p. depth p.1 ≤ m) ps
values_within m ps h = let e = depth-Obj ps in pairs-all m ps (omega (arith, e, h))

-- a value put under a key
pub all-set_pair : (Q : Json → Type 0) (key : List ℕ) (v : Json) (ps : List (List ℕ × Json)) → Q v → AllByRecursion (λ p. Q p.1) ps → AllByRecursion (λ p. Q p.1) (set_pair key v ps)
all-set_pair Q key v [] h all = (h, tt)
all-set_pair Q key v (p ∷ ps) h all =
    elim (bytes_eq p.0 key) as (λ b. AllByRecursion (λ q. Q q.1) (cond b ((p.0, v) ∷ ps) (p ∷ set_pair key v ps))) [ true ↦ (h, all.1) | false ↦ (all.0, all-set_pair Q key v ps h all.1) ]

-- the value under a key, or `null`
pub all-found : (Q : Json → Type 0) (key : List ℕ) (ps : List (List ℕ × Json)) → Q json.Null → AllByRecursion (λ p. Q p.1) ps → Q (unwrap_or (find key ps) json.Null)
all-found Q key [] null all = null
all-found Q key (p ∷ ps) null all =
    elim (bytes_eq p.0 key) as (λ b. Q (unwrap_or (cond b (Some p.1) (find key ps)) json.Null)) [ true ↦ all.0 | false ↦ all-found Q key ps null all.1 ]

fields_within : (m : ℕ) (t : Json) → depth t ≤ suc m → AllByRecursion (λ p. depth p.1 ≤ m) (fields t)
fields_within m t h =
    elim (cases_Bool (is_object t)) [
      | inl is ↦ values_within m (fields t) (subst (λ x. depth x ≤ suc m) (object_is t is) h)
      | inr no_object ↦ subst (λ ps. AllByRecursion (λ p. depth p.1 ≤ m) ps) (sym (no_fields (out-Json t) no_object)) tt
    ]

pub field_set_within : (m : ℕ) (key : List ℕ) (v t : Json) → depth t ≤ suc m → depth v ≤ m → depth (set_field key v t) ≤ suc m
field_set_within m key v t h d = object_within m (set_pair key v (fields t)) (all-set_pair (λ u. depth u ≤ m) key v (fields t) d (fields_within m t h))

pub null_within : (m : ℕ) → depth json.Null ≤ m
null_within m = let e = depth-Null in omega (arith, e)

pub set_within_within : (m : ℕ) (outer key : List ℕ) (v t : Json) → depth t ≤ suc (suc m) → depth v ≤ m → depth (set_within outer key v t) ≤ suc (suc m)
set_within_within m outer key v t h d =
    let inner = all-found (λ u. depth u ≤ suc m) outer (fields t) (null_within (suc m)) (fields_within (suc m) t h) in
    field_set_within (suc m) outer (set_field key v (unwrap_or (field t outer) json.Null)) t h (field_set_within m key v (unwrap_or (field t outer) json.Null) inner d)

pub string_within : (m : ℕ) (s : List ℕ) → depth (json.Str s) ≤ m
string_within m s = let e = depth-Str s in omega (arith, e)

-- a list of values that are within a bound
pub items_within : (m : ℕ) (xs : List Json) → AllByRecursion (λ x. depth x ≤ m) xs → depth (json.Arr xs) ≤ suc m
items_within m xs all = let e = depth-Arr xs in let h = highest-le m xs all in omega (arith, e, h)

pending_within : depth pending_mark ≤ 1
pending_within =
    let e = depth-Str (codes "pending") in
    object_within 0 ((codes "exception", json.Null) ∷ (codes "status", json.Str (codes "pending")) ∷ []) (null_within 0, (omega (arith, e), tt))

-- ---- a prepared cell

mark_within : (m : Json) → depth m ≤ 125 → depth (set_field (codes "papermill") pending_mark m) ≤ 125
mark_within m h = let d = pending_within in field_set_within 124 (codes "papermill") pending_mark m h (omega (arith, d))

abbrev Within : List (List ℕ × Json) → Type 0
Within ps = AllByRecursion (λ p. depth p.1 ≤ 125) ps

empty_within : depth (json.Arr []) ≤ 125
empty_within = let e = depth-Arr [] in omega (arith, e)

prose_within : (type id source m : Json) (o : Option Json) → Within (optional_pair (codes "attachments") o ++ ((codes "cell_type", type) ∷ (codes "id", id) ∷ (codes "metadata", m) ∷ (codes "source", source) ∷ []))
    → Within (optional_pair (codes "attachments") o ++ ((codes "cell_type", type) ∷ (codes "id", id) ∷ (codes "metadata", set_field (codes "papermill") pending_mark m) ∷ (codes "source", source) ∷ []))
prose_within type id source m None all = (all.0, (all.1.0, (mark_within m all.1.1.0, all.1.1.1)))
prose_within type id source m (Some v) all = (all.0, (all.1.0, (all.1.1.0, (mark_within m all.1.1.1.0, all.1.1.1.1))))

pairs_within : (k : Kind) (c : Cell) → Within (pairs_with k c) → Within (pairs_with k (prepared_with k c))
pairs_within kind.Raw c all = prose_within (json.Str (codes "raw")) (json.Str c.id) c.source c.metadata c.attachments all
pairs_within kind.Markdown c all = prose_within (json.Str (codes "markdown")) (json.Str c.id) c.source c.metadata c.attachments all
pairs_within kind.Code c all = (all.0, (null_within 125, (all.1.1.0, (mark_within c.metadata all.1.1.1.0, (empty_within, all.1.1.1.1.1)))))

cell_within : (c : Cell) → depth (cell_tree c) ≤ 126 → depth (cell_tree (prepared_cell c)) ≤ 126
cell_within c h =
    subst (λ k. depth (json.Obj (pairs_with k (prepared_cell c))) ≤ 126) (sym (kind_stays c)) (object_within 125 (pairs_with c.kind (prepared_cell c)) (pairs_within c.kind c (values_within 125 (pairs_with c.kind c) h)))

cells_within : (cs : List Cell) → AllByRecursion (λ x. depth x ≤ 126) (map cell_tree cs) → AllByRecursion (λ x. depth x ≤ 126) (map cell_tree (map prepared_cell cs))
cells_within [] all = tt
cells_within (c ∷ cs) all = (cell_within c all.0, cells_within cs all.1)

-- ---- a prepared notebook

pub list_within : (xs : List Json) → depth (json.Arr xs) ≤ 127 → AllByRecursion (λ x. depth x ≤ 126) xs
list_within xs h = let e = depth-Arr xs in highest-all 126 xs (omega (arith, e, h))

pub within_list : (xs : List Json) → AllByRecursion (λ x. depth x ≤ 126) xs → depth (json.Arr xs) ≤ 127
within_list xs all = let e = depth-Arr xs in let h = highest-le 126 xs all in omega (arith, e, h)

abbrev top_pairs : List Cell → Json → List (List ℕ × Json)
top_pairs cs m = (codes "cells", json.Arr (map cell_tree cs)) ∷ (codes "metadata", m) ∷ (codes "nbformat", json.Num (codes "4")) ∷ (codes "nbformat_minor", json.Num (codes "5")) ∷ []

pub prepared_within : (n : Notebook) → depth (notebook_tree n) ≤ 128 → depth (notebook_tree (prepared_notebook n)) ≤ 128
prepared_within n h =
    let all = values_within 127 (top_pairs n.cells n.metadata) h in
    object_within 127 (top_pairs (map prepared_cell n.cells) (set_within (codes "papermill") (codes "exception") json.Null n.metadata))
    (within_list (map cell_tree (map prepared_cell n.cells)) (cells_within n.cells (list_within (map cell_tree n.cells) all.0)), (set_within_within 125 (codes "papermill") (codes "exception") json.Null n.metadata all.1.0 (null_within 125), all.1.1))
