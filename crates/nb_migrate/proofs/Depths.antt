-- A tree that is raised to nbformat 4.5 is nested no deeper.
use Rattle.std.proofs.Common.{◌≡◌, ℕ, zero, suc, ◌+◌, ◌≤◌, true, false, List, [], ◌∷◌, map, sym, ap, ◌∙◌, inl, inr, subst, cond, codes, arith}
use Rattle.std.specs.List.{AllByRecursion}
use Rattle.std.specs.Str.{bytes_eq}
use Rattle.std.proofs.lemmas.Bool.{cases_Bool, cond-true, cond-false}
use Rattle.jtext.specs.declared.json.Json.{Json}
use Rattle.jtext.specs.declared.json.Json.TheVariants as json
use Rattle.jtext.specs.Depth.{depth}
use Rattle.jtext.specs.Find.{fields}
use Rattle.jtext.specs.Look.{is_object, is_list, items}
use Rattle.jtext.proofs.Depths.{depth-Arr, depth-Obj, depth-Num, highest-le, highest-all}
use Rattle.jtext.specs.Edit.{set_field}
use Rattle.nb_model.proofs.DepthLaws.{string_within, object_within, values_within, field_set_within}
use Rattle.jtext.proofs.Trees.{object_is, list_is}
use Rattle.nb_migrate.specs.Raised.{is_older, new_id, raised_cell, raised_from, raised_cells, raised_pair, raised_object, raised_tree}

-- an object is one level at least, and so is a list
some_object : (n : ℕ) (t : Json) → is_object t ≡ true → depth t ≤ n → 1 ≤ n
some_object n t is h = let e = ap depth (object_is t is) ∙ depth-Obj (fields t) in omega (arith, e, h)

some_list : (n : ℕ) (t : Json) → is_list t ≡ true → depth t ≤ n → 1 ≤ n
some_list n t is h = let e = ap depth (list_is t is) ∙ depth-Arr (items t) in omega (arith, e, h)

number_within : (m : ℕ) (s : List ℕ) → depth (json.Num s) ≤ m
number_within m s = let e = depth-Num s in omega (arith, e)

cell_within : (n i : ℕ) (v : Json) → depth v ≤ n → depth (raised_cell i v) ≤ n
cell_within n i v h =
    elim (cases_Bool (is_object v)) [
      | inl is ↦ subst (λ t. depth t ≤ n) (sym (cond-true (is_object v) (set_field (codes "id") (json.Str (new_id i)) v) v is)) (set n is h)
      | inr no_object ↦ subst (λ t. depth t ≤ n) (sym (cond-false (is_object v) (set_field (codes "id") (json.Str (new_id i)) v) v no_object)) h
    ]
  where
    set : (m : ℕ) → is_object v ≡ true → depth v ≤ m → depth (set_field (codes "id") (json.Str (new_id i)) v) ≤ m
    set zero is small = let some = some_object 0 v is small in absurd (omega (arith, some))
    set (suc m) is small = field_set_within m (codes "id") (json.Str (new_id i)) v small (string_within m (new_id i))

items_within : (n i : ℕ) (xs : List Json) → AllByRecursion (λ x. depth x ≤ n) xs → AllByRecursion (λ x. depth x ≤ n) (raised_from i xs)
items_within n i [] all = tt
items_within n i (x ∷ xs) all = (cell_within n i x all.0, items_within n (i + 1) xs all.1)

cells_within : (n : ℕ) (v : Json) → depth v ≤ n → depth (raised_cells v) ≤ n
cells_within n v h =
    elim (cases_Bool (is_list v)) [
      | inl is ↦ subst (λ t. depth t ≤ n) (sym (cond-true (is_list v) (json.Arr (raised_from 0 (items v))) v is)) (list n is h)
      | inr no_list ↦ subst (λ t. depth t ≤ n) (sym (cond-false (is_list v) (json.Arr (raised_from 0 (items v))) v no_list)) h
    ]
  where
    list : (m : ℕ) → is_list v ≡ true → depth v ≤ m → depth (json.Arr (raised_from 0 (items v))) ≤ m
    list zero is small = let some = some_list 0 v is small in absurd (omega (arith, some))
    list (suc m) is small =
        let before = ap depth (list_is v is) ∙ depth-Arr (items v) in
        let within = highest-le m (raised_from 0 (items v)) (items_within m 0 (items v) (highest-all m (items v) (omega (arith, before, small)))) in
        let after = depth-Arr (raised_from 0 (items v)) in
        omega (arith, within, after)

pair_within : (n : ℕ) (p : List ℕ × Json) → depth p.1 ≤ n → depth (raised_pair p).1 ≤ n
pair_within n p h =
    elim (bytes_eq p.0 (codes "cells")) as (λ b. depth (cond b (p.0, raised_cells p.1) (cond (bytes_eq p.0 (codes "nbformat_minor")) (p.0, json.Num (codes "5")) p)).1 ≤ n) [
      | true ↦ cells_within n p.1 h
      | false ↦ elim (bytes_eq p.0 (codes "nbformat_minor")) as (λ b. depth (cond b (p.0, json.Num (codes "5")) p).1 ≤ n) [ true ↦ number_within n (codes "5") | false ↦ h ]
    ]

pairs_within : (n : ℕ) (ps : List (List ℕ × Json)) → AllByRecursion (λ p. depth p.1 ≤ n) ps → AllByRecursion (λ p. depth p.1 ≤ n) (map raised_pair ps)
pairs_within n [] all = tt
pairs_within n (p ∷ ps) all = (pair_within n p all.0, pairs_within n ps all.1)

whole_within : (n : ℕ) (t : Json) → depth t ≤ n → depth (raised_object t) ≤ n
whole_within n t h =
    elim (cases_Bool (is_object t)) [
      | inl is ↦ subst (λ u. depth u ≤ n) (sym (cond-true (is_object t) (json.Obj (map raised_pair (fields t))) t is)) (object n is h)
      | inr no_object ↦ subst (λ u. depth u ≤ n) (sym (cond-false (is_object t) (json.Obj (map raised_pair (fields t))) t no_object)) h
    ]
  where
    object : (m : ℕ) → is_object t ≡ true → depth t ≤ m → depth (json.Obj (map raised_pair (fields t))) ≤ m
    object zero is small = let some = some_object 0 t is small in absurd (omega (arith, some))
    object (suc m) is small = object_within m (map raised_pair (fields t)) (pairs_within m (fields t) (values_within m (fields t) (subst (λ u. depth u ≤ suc m) (object_is t is) small)))

pub no_deeper : (t : Json) → depth (raised_tree t) ≤ depth t
no_deeper t =
    elim (is_older t) as (λ b. depth (cond b (raised_object t) t) ≤ depth t) [ true ↦ whole_within (depth t) t (omega arith) | false ↦ omega arith ]
