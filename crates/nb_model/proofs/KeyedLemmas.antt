-- Trees in which no key stands twice: their parts, and objects in which a value is set; cells and notebooks from theirs.
use Rattle.std.proofs.Common.{◌≡◌, ◌≢◌, ℕ, true, false, not, List, [], ◌∷◌, ◌++◌, map, Option, Some, None, refl, sym, inl, inr, subst, cond, codes}
use Rattle.std.specs.Prelude.{unwrap_or}
use Rattle.std.specs.List.{AllByRecursion, list_any}
use Rattle.std.specs.Str.{bytes_eq}
use Rattle.std.proofs.lemmas.Bool.{cases_Bool, cond-true, cond-false, and_parts}
use Rattle.jtext.specs.declared.json.Json.{Json, out-Json}
use Rattle.jtext.specs.declared.json.Json.TheVariants as json
use Rattle.jtext.specs.Find.{field, fields}
use Rattle.jtext.specs.Look.{is_object, is_list, items}
use Rattle.jtext.specs.Grammar.{Lacks, Distinct}
use Rattle.jtext.specs.Keyed as keyed
use Rattle.jtext.specs.Keyed.{Keyed, AllKeyed, PairsKeyed}
use Rattle.jtext.proofs.Equals.{apart_bytes}
use Rattle.nb_model.specs.declared.kind.Kind.{Kind}
use Rattle.nb_model.specs.declared.kind.Kind.TheVariants as kind
use Rattle.nb_model.specs.declared.cell.Cell.{Cell}
use Rattle.nb_model.specs.declared.notebook.Notebook.{Notebook}
use Rattle.nb_model.specs.Tree.{optional_pair, cell_tree, notebook_tree}
use Rattle.jtext.specs.Edit.{set_pair, set_field, set_within}
use Rattle.nb_model.proofs.Tautologies.{not_or}
use Rattle.nb_model.proofs.PreparedLaws.{no_repeat}
use Rattle.nb_model.proofs.DepthLaws.{all-set_pair, all-found}
use Rattle.jtext.proofs.Trees.{object_is, list_is, items_keyed, pairs_keyed, first_keyed, pair_keyed, found_keyed, no_items, no_fields}
use Rattle.nb_model.proofs.TreeLaws.{pairs_with}
use Rattle.nb_model.proofs.CellValues.{Values, prose_pairs, all-map, all-unmap, top_pairs}

-- ---- lists

pub values_of : (ps : List (List ℕ × Json)) → PairsKeyed ps → Values Keyed ps
values_of [] k = tt
values_of (p ∷ ps) k = let h = pair_keyed p ps k in (h.0, values_of ps h.1)

pub pairs_of : (ps : List (List ℕ × Json)) → Values Keyed ps → PairsKeyed ps
pairs_of [] all = keyed.no_pairs
pairs_of (p ∷ ps) all = keyed.pair p.0 p.1 ps all.0 (pairs_of ps all.1)

each_of : (xs : List Json) → AllKeyed xs → AllByRecursion Keyed xs
each_of [] k = tt
each_of (x ∷ xs) k = let h = first_keyed x xs k in (h.0, each_of xs h.1)

pub items_of : (xs : List Json) → AllByRecursion Keyed xs → AllKeyed xs
items_of [] all = keyed.none
items_of (x ∷ xs) all = keyed.more x xs all.0 (items_of xs all.1)

-- ---- distinct keys

lacks_from : (key : List ℕ) (ps : List (List ℕ × Json)) → not (list_any (bytes_eq key) (map (λ p. p.0) ps)) ≡ true → Lacks key ps
lacks_from key [] e = tt
lacks_from key (p ∷ ps) e = let h = not_or (bytes_eq key p.0) (list_any (bytes_eq key) (map (λ q. q.0) ps)) e in (λ e. apart_bytes key p.0 h.0 (sym e), lacks_from key ps h.1)

pub distinct_from : (ps : List (List ℕ × Json)) → no_repeat (map (λ p. p.0) ps) ≡ true → Distinct ps
distinct_from [] e = tt
distinct_from (p ∷ ps) e =
    let h = and_parts (not (list_any (bytes_eq p.0) (map (λ q. q.0) ps))) (no_repeat (map (λ q. q.0) ps)) e in
    (lacks_from p.0 ps h.0, distinct_from ps h.1)

lacks-set_pair : (k key : List ℕ) (v : Json) (ps : List (List ℕ × Json)) → key ≢ k → Lacks k ps → Lacks k (set_pair key v ps)
lacks-set_pair k key v [] ne l = (ne, tt)
lacks-set_pair k key v (p ∷ ps) ne l =
    elim (bytes_eq p.0 key) as (λ b. Lacks k (cond b ((p.0, v) ∷ ps) (p ∷ set_pair key v ps))) [ true ↦ l | false ↦ (l.0, lacks-set_pair k key v ps ne l.1) ]

distinct-set_pair : (key : List ℕ) (v : Json) (ps : List (List ℕ × Json)) → Distinct ps → Distinct (set_pair key v ps)
distinct-set_pair key v [] d = (tt, tt)
distinct-set_pair key v (p ∷ ps) d =
    elim (cases_Bool (bytes_eq p.0 key)) [
      | inl t ↦ subst Distinct (sym (cond-true (bytes_eq p.0 key) ((p.0, v) ∷ ps) (p ∷ set_pair key v ps) t)) d
      | inr f ↦ subst Distinct (sym (cond-false (bytes_eq p.0 key) ((p.0, v) ∷ ps) (p ∷ set_pair key v ps) f)) (lacks-set_pair p.0 key v ps (λ e. apart_bytes p.0 key f (sym e)) d.0, distinct-set_pair key v ps d.1)
    ]

-- ---- a value set in an object

pub fields_keyed : (t : Json) → Keyed t → Values Keyed (fields t) × Distinct (fields t)
fields_keyed t k =
    elim (cases_Bool (is_object t)) [
      | inl is ↦ let h = pairs_keyed t (fields t) k (object_is t is) in (values_of (fields t) h.0, h.1)
      | inr no_object ↦ subst (λ ps. Values Keyed ps × Distinct ps) (sym (no_fields (out-Json t) no_object)) (tt, tt)
    ]

pub keyed-set_field : (key : List ℕ) (v t : Json) → Keyed v → Keyed t → Keyed (set_field key v t)
keyed-set_field key v t kv kt =
    let h = fields_keyed t kt in
    keyed.object (set_pair key v (fields t)) (pairs_of (set_pair key v (fields t)) (all-set_pair Keyed key v (fields t) kv h.0)) (distinct-set_pair key v (fields t) h.1)

pub keyed-set_within : (outer key : List ℕ) (v t : Json) → Keyed v → Keyed t → Keyed (set_within outer key v t)
keyed-set_within outer key v t kv kt =
    let inner = all-found Keyed outer (fields t) keyed.null (fields_keyed t kt).0 in
    keyed-set_field outer (set_field key v (unwrap_or (field t outer) json.Null)) t (keyed-set_field key v (unwrap_or (field t outer) json.Null) kv inner) kt

-- ---- the values of a tree

pub keyed_value : (key : List ℕ) (t v : Json) → Keyed t → field t key ≡ Some v → Keyed v
keyed_value key t v k e = found_keyed key (fields t) v (pairs_of (fields t) (fields_keyed t k).0) e

pub keyed_items : (t : Json) → Keyed t → AllKeyed (items t)
keyed_items t k =
    elim (cases_Bool (is_list t)) [
      | inl is ↦ items_keyed t (items t) k (list_is t is)
      | inr no_list ↦ rw (no_items (out-Json t) no_list) keyed.none
    ]

-- ---- cells

distinct_prose : (name : List ℕ) (c : Cell) (o : Option Json) → Distinct (optional_pair (codes "attachments") o ++ prose_pairs name c c.metadata)
distinct_prose name c None = distinct_from (prose_pairs name c c.metadata) refl
distinct_prose name c (Some v) = distinct_from ((codes "attachments", v) ∷ prose_pairs name c c.metadata) refl

distinct_cell : (k : Kind) (c : Cell) → Distinct (pairs_with k c)
distinct_cell kind.Raw c = distinct_prose (codes "raw") c c.attachments
distinct_cell kind.Markdown c = distinct_prose (codes "markdown") c c.attachments
distinct_cell kind.Code c = distinct_from (pairs_with kind.Code c) refl

pub cell_keyed : (c : Cell) → Values Keyed (pairs_with c.kind c) → Keyed (cell_tree c)
cell_keyed c all = keyed.object (pairs_with c.kind c) (pairs_of (pairs_with c.kind c) all) (distinct_cell c.kind c)

pub values_keyed : (c : Cell) → Keyed (cell_tree c) → Values Keyed (pairs_with c.kind c)
values_keyed c k = values_of (pairs_with c.kind c) (pairs_keyed (cell_tree c) (pairs_with c.kind c) k refl).0

strings_keyed : (ls : List (List ℕ)) → AllByRecursion Keyed (map (λ l. json.Str l) ls)
strings_keyed [] = tt
strings_keyed (l ∷ ls) = (keyed.text l, strings_keyed ls)

pub string_list_keyed : (ls : List (List ℕ)) → Keyed (json.Arr (map (λ l. json.Str l) ls))
string_list_keyed ls = keyed.array (map (λ l. json.Str l) ls) (items_of (map (λ l. json.Str l) ls) (strings_keyed ls))

-- ---- notebooks

pub notebook_keyed : (n : Notebook) → AllByRecursion (λ c. Keyed (cell_tree c)) n.cells → Keyed n.metadata → Keyed (notebook_tree n)
notebook_keyed n cells metadata =
    let list = keyed.array (map cell_tree n.cells) (items_of (map cell_tree n.cells) (all-map Keyed cell_tree n.cells cells)) in
    keyed.object (top_pairs n) (pairs_of (top_pairs n) (list, (metadata, (keyed.number (codes "4"), (keyed.number (codes "5"), tt))))) (distinct_from (top_pairs n) refl)

pub parts_keyed : (n : Notebook) → Keyed (notebook_tree n) → AllByRecursion (λ c. Keyed (cell_tree c)) n.cells × Keyed n.metadata
parts_keyed n k =
    let all = values_of (top_pairs n) (pairs_keyed (notebook_tree n) (top_pairs n) k refl).0 in
    (all-unmap Keyed cell_tree n.cells (each_of (map cell_tree n.cells) (items_keyed (json.Arr (map cell_tree n.cells)) (map cell_tree n.cells) all.0 refl)), all.1.0)
