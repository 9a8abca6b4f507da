-- No object has a key twice when a tree is raised to nbformat 4.5, where none had before.
use Rattle.std.proofs.Common.{◌≡◌, ℕ, ◌+◌, true, false, List, [], ◌∷◌, map, refl, sym, ◌∙◌, subst, cond, codes}
use Rattle.std.specs.Str.{bytes_eq}
use Rattle.jtext.specs.declared.json.Json.{Json}
use Rattle.jtext.specs.declared.json.Json.TheVariants as json
use Rattle.jtext.specs.Find.{fields}
use Rattle.jtext.specs.Look.{is_object, is_list, items}
use Rattle.jtext.specs.Grammar.{Lacks, Distinct}
use Rattle.jtext.specs.Keyed as keyed
use Rattle.jtext.specs.Keyed.{Keyed, AllKeyed}
use Rattle.jtext.specs.Edit.{set_field}
use Rattle.nb_model.proofs.CellValues.{Values}
use Rattle.nb_model.proofs.KeyedLemmas.{pairs_of, fields_keyed, keyed_items, keyed-set_field}
use Rattle.jtext.proofs.Trees.{first_keyed}
use Rattle.nb_migrate.specs.Raised.{is_older, new_id, raised_cell, raised_from, raised_cells, raised_pair, raised_object, raised_tree}

cell_keyed : (i : ℕ) (v : Json) → Keyed v → Keyed (raised_cell i v)
cell_keyed i v k =
    elim (is_object v) as (λ b. Keyed (cond b (set_field (codes "id") (json.Str (new_id i)) v) v)) [
      | true ↦ keyed-set_field (codes "id") (json.Str (new_id i)) v (keyed.text (new_id i)) k
      | false ↦ k
    ]

items_keyed : (i : ℕ) (xs : List Json) → AllKeyed xs → AllKeyed (raised_from i xs)
items_keyed i [] k = keyed.none
items_keyed i (x ∷ xs) k =
    let h = first_keyed x xs k in
    keyed.more (raised_cell i x) (raised_from (i + 1) xs) (cell_keyed i x h.0) (items_keyed (i + 1) xs h.1)

cells_keyed : (v : Json) → Keyed v → Keyed (raised_cells v)
cells_keyed v k =
    elim (is_list v) as (λ b. Keyed (cond b (json.Arr (raised_from 0 (items v))) v)) [
      | true ↦ keyed.array (raised_from 0 (items v)) (items_keyed 0 (items v) (keyed_items v k))
      | false ↦ k
    ]

value_keyed : (p : List ℕ × Json) → Keyed p.1 → Keyed (raised_pair p).1
value_keyed p k =
    elim (bytes_eq p.0 (codes "cells")) as (λ b. Keyed (cond b (p.0, raised_cells p.1) (cond (bytes_eq p.0 (codes "nbformat_minor")) (p.0, json.Num (codes "5")) p)).1) [
      | true ↦ cells_keyed p.1 k
      | false ↦ elim (bytes_eq p.0 (codes "nbformat_minor")) as (λ b. Keyed (cond b (p.0, json.Num (codes "5")) p).1) [ true ↦ keyed.number (codes "5") | false ↦ k ]
    ]

values_keyed : (ps : List (List ℕ × Json)) → Values Keyed ps → Values Keyed (map raised_pair ps)
values_keyed [] all = tt
values_keyed (p ∷ ps) all = (value_keyed p all.0, values_keyed ps all.1)

-- each pair keeps its key
pub same_key : (p : List ℕ × Json) → (raised_pair p).0 ≡ p.0
same_key p =
    elim (bytes_eq p.0 (codes "cells")) as (λ b. (cond b (p.0, raised_cells p.1) (cond (bytes_eq p.0 (codes "nbformat_minor")) (p.0, json.Num (codes "5")) p)).0 ≡ p.0) [
      | true ↦ refl
      | false ↦ elim (bytes_eq p.0 (codes "nbformat_minor")) as (λ b. (cond b (p.0, json.Num (codes "5")) p).0 ≡ p.0) [ true ↦ refl | false ↦ refl ]
    ]

lacks_raised : (key : List ℕ) (ps : List (List ℕ × Json)) → Lacks key ps → Lacks key (map raised_pair ps)
lacks_raised key [] l = tt
lacks_raised key (p ∷ ps) l = (λ e. l.0 (sym (same_key p) ∙ e), lacks_raised key ps l.1)

distinct_raised : (ps : List (List ℕ × Json)) → Distinct ps → Distinct (map raised_pair ps)
distinct_raised [] d = tt
distinct_raised (p ∷ ps) d =
    (subst (λ key. Lacks key (map raised_pair ps)) (sym (same_key p)) (lacks_raised p.0 ps d.0), distinct_raised ps d.1)

object_keyed : (t : Json) → Keyed t → Keyed (raised_object t)
object_keyed t k =
    let h = fields_keyed t k in
    let raised_pairs = map raised_pair (fields t) in
    elim (is_object t) as (λ b. Keyed (cond b (json.Obj (map raised_pair (fields t))) t)) [
      | true ↦ keyed.object raised_pairs (pairs_of raised_pairs (values_keyed (fields t) h.0)) (distinct_raised (fields t) h.1)
      | false ↦ k
    ]

pub raised_keyed : (t : Json) → Keyed t → Keyed (raised_tree t)
raised_keyed t k = elim (is_older t) as (λ b. Keyed (cond b (raised_object t) t)) [ true ↦ object_keyed t k | false ↦ k ]
