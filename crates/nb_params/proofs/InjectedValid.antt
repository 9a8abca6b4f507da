-- An injected notebook is valid where the notebook is.
use Rattle.std.proofs.Common.{◌≡◌, ℕ, suc, ◌<◌, ◌≤◌, ◌^◌, Bool, true, false, ◌&&◌, List, [], ◌∷◌, map, length, refl, sym, ap, ap₂, ◌∙◌, arith, cond, codes, rules}
use Rattle.std.specs.List.{AllByRecursion, list_all}
use Rattle.std.proofs.lemmas.Bool.{and_parts}
use Rattle.jtext.specs.declared.json.Json.{Json, the_lemmas}
use Rattle.jtext.specs.declared.json.Json.TheVariants as json
use Rattle.jtext.specs.Depth.{depth}
use Rattle.jtext.specs.Look.{absent_or}
use Rattle.jtext.proofs.Depths.{depth-Bool}
use Rattle.nb_model.specs.declared.kind.Kind.{Kind}
use Rattle.nb_model.specs.declared.kind.Kind.TheVariants as kind
use Rattle.nb_model.specs.declared.cell.Cell.{Cell}
use Rattle.nb_model.specs.declared.notebook.Notebook.{Notebook}
use Rattle.nb_model.specs.Lines.{lines_of}
use Rattle.nb_model.specs.Valid.{is_output, is_cell_metadata, are_attachments, is_metadata, Valid}
use Rattle.nb_params.specs.Python.{python}
use Rattle.nb_model.specs.Tree.{cell_tree, notebook_tree}
use Rattle.nb_model.specs.Reading.{value_at}
use Rattle.jtext.specs.Edit.{set_field, set_within}
use Rattle.nb_model.specs.Kind.{is_code}
use Rattle.nb_params.specs.Injected.{hidden_cell, parameters_cell, fresh_id, ids, parametrised_notebook, injected_notebook, parameters_metadata}
use Rattle.nb_model.proofs.PreparedLaws.{and_eq, common_fits, count_fits, kind_fits, cell_fits, no_repeat, cell_metadata_kept, metadata_kept, common_kept, metadata_of, notebook_fits, notebook_tree-fits}
use Rattle.nb_model.proofs.DepthLaws.{string_within, items_within, object_within, values_within, null_within, set_within_within, list_within, within_list}
use Rattle.nb_model.proofs.Multilines.{strings_multiline}
use Rattle.nb_model.proofs.TreeLaws.{pairs_with}
use Rattle.nb_params.proofs.FreshIds.{fresh_id-is_id}
use Rattle.nb_params.proofs.Placements.{no_repeat-placed}
use Rattle.nb_model.proofs.CellValues.{all-map, all-unmap, top_pairs}
use Rattle.nb_params.proofs.InjectedCells.{hidden_values, all_injected, metadata_injected}

-- ---- the new cell

metadata_fits : is_cell_metadata parameters_metadata ≡ true
metadata_fits = search (rules, the_lemmas)

new_fits : (is : List (List ℕ)) (ps : List (List ℕ × Json)) → length is < 10 ^ 44 → cell_fits (parameters_cell (fresh_id is) ps) ≡ true
new_fits is ps h = and_eq (and_eq (and_eq (and_eq (fresh_id-is_id is h) metadata_fits) (strings_multiline (lines_of (python ps)))) refl) refl

-- ---- hidden sources

refitted : (k : Kind) (c : Cell) (m : Json) → (is_cell_metadata c.metadata ≡ true → is_cell_metadata m ≡ true) → kind_fits k c ≡ true → kind_fits k (record c { metadata = m }) ≡ true
refitted kind.Raw c m kept e = let h = and_parts (common_fits c) (absent_or are_attachments c.attachments) e in and_eq (common_kept c m (kept (metadata_of c h.0)) h.0) h.1
refitted kind.Markdown c m kept e = let h = and_parts (common_fits c) (absent_or are_attachments c.attachments) e in and_eq (common_kept c m (kept (metadata_of c h.0)) h.0) h.1
refitted kind.Code c m kept e =
    let h = and_parts (common_fits c && list_all is_output c.outputs) (count_fits c.count) e in
    let g = and_parts (common_fits c) (list_all is_output c.outputs) h.0 in
    and_eq (and_eq (common_kept c m (kept (metadata_of c g.0)) g.0) g.1) h.1

abbrev hiding : Json → Json
hiding m = set_within (codes "jupyter") (codes "source_hidden") (json.Bool true) m

hidden_fits : (c : Cell) → cell_fits c ≡ true → cell_fits (hidden_cell c) ≡ true
hidden_fits c e =
    elim (is_code c.kind) as (λ b. cell_fits (cond b (record c { metadata = hiding c.metadata }) c) ≡ true) [
      | true ↦ refitted c.kind c (hiding c.metadata) (cell_metadata_kept (codes "jupyter") (set_field (codes "source_hidden") (json.Bool true) (value_at (codes "jupyter") c.metadata)) c.metadata refl) e
      | false ↦ e
    ]

hidden_id : (c : Cell) → (hidden_cell c).id ≡ c.id
hidden_id c = elim (is_code c.kind) as (λ b. (cond b (record c { metadata = hiding c.metadata }) c).id ≡ c.id) [ true ↦ refl | false ↦ refl ]

hidden_ids : (cs : List Cell) → ids (map hidden_cell cs) ≡ ids cs
hidden_ids [] = refl
hidden_ids (c ∷ cs) = ap₂ (λ i is. i ∷ is) (hidden_id c) (hidden_ids cs)

-- ---- ids

ids_parametrised : (n : Notebook) (ps : List (List ℕ × Json)) → length n.cells < 10 ^ 44 → no_repeat (ids n.cells) ≡ true → no_repeat (ids (parametrised_notebook n ps).cells) ≡ true
ids_parametrised n [] h e = e
ids_parametrised n (p ∷ ps) h e = no_repeat-placed (p ∷ ps) n.cells h e

ids_injected : (n : Notebook) (ps : List (List ℕ × Json)) (report : Bool) → length n.cells < 10 ^ 44 → no_repeat (ids n.cells) ≡ true → no_repeat (ids (injected_notebook n ps report).cells) ≡ true
ids_injected n ps true h e = ap no_repeat (hidden_ids (parametrised_notebook n ps).cells) ∙ ids_parametrised n ps h e
ids_injected n ps false h e = ids_parametrised n ps h e

-- ---- the notebook

all-from : {A : Type 0} (test : A → Bool) (xs : List A) → list_all test xs ≡ true → AllByRecursion (λ x. test x ≡ true) xs
all-from test [] e = tt
all-from test (x ∷ xs) e = let h = and_parts (test x) (list_all test xs) e in (h.0, all-from test xs h.1)

from-all : {A : Type 0} (test : A → Bool) (xs : List A) → AllByRecursion (λ x. test x ≡ true) xs → list_all test xs ≡ true
from-all test [] all = refl
from-all test (x ∷ xs) all = and_eq all.0 (from-all test xs all.1)

injected_fits : (n : Notebook) (ps : List (List ℕ × Json)) (report : Bool) → length n.cells < 10 ^ 44 → notebook_fits n ≡ true → notebook_fits (injected_notebook n ps report) ≡ true
injected_fits n ps report h e =
    let f = and_parts (is_metadata n.metadata) (list_all cell_fits n.cells && no_repeat (ids n.cells)) e in
    let g = and_parts (list_all cell_fits n.cells) (no_repeat (ids n.cells)) f.1 in
    let cells = all_injected (λ c. cell_fits c ≡ true) (length n.cells) (λ is qs few. new_fits is qs (omega arith)) hidden_fits n ps report (omega arith) (all-from cell_fits n.cells g.0) in
    let metadata = metadata_injected (λ m. is_metadata m ≡ true) n ps report f.0 (metadata_kept (set_field (codes "parameters") (json.Obj ps) (value_at (codes "papermill") n.metadata)) n.metadata f.0) in
    and_eq metadata (and_eq (from-all cell_fits (injected_notebook n ps report).cells cells) (ids_injected n ps report h g.1))

-- ---- depth

abbrev Within : Json → Type 0
Within t = depth t ≤ 125

strings_within : (m : ℕ) (ls : List (List ℕ)) → AllByRecursion (λ x. depth x ≤ m) (map (λ l. json.Str l) ls)
strings_within m [] = tt
strings_within m (l ∷ ls) = (string_within m l, strings_within m ls)

strings_list_within : (m : ℕ) (ls : List (List ℕ)) → depth (json.Arr (map (λ l. json.Str l) ls)) ≤ suc m
strings_list_within m ls = items_within m (map (λ l. json.Str l) ls) (strings_within m ls)

new_within : (id : List ℕ) (ps : List (List ℕ × Json)) → depth (cell_tree (parameters_cell id ps)) ≤ 126
new_within id ps =
    let tags = object_within 124 ((codes "tags", json.Arr (json.Str (codes "injected-parameters") ∷ [])) ∷ []) (strings_list_within 123 (codes "injected-parameters" ∷ []), tt) in
    object_within 125 (pairs_with kind.Code (parameters_cell id ps))
    (string_within 125 (codes "code"), (null_within 125, (string_within 125 id, (tags, (strings_list_within 124 [], (strings_list_within 124 (lines_of (python ps)), tt))))))

hiding_within : (m : Json) → Within m → Within (hiding m)
hiding_within m h = let e = depth-Bool true in set_within_within 123 (codes "jupyter") (codes "source_hidden") (json.Bool true) m h (omega (arith, e))

hidden_within : (c : Cell) → depth (cell_tree c) ≤ 126 → depth (cell_tree (hidden_cell c)) ≤ 126
hidden_within c h = object_within 125 (pairs_with (hidden_cell c).kind (hidden_cell c)) (hidden_values Within hiding_within c (values_within 125 (pairs_with c.kind c) h))

injected_within : (n : Notebook) (ps : List (List ℕ × Json)) (report : Bool) → AllByRecursion (λ p. depth p.1 ≤ 124) ps → depth (notebook_tree n) ≤ 128 → depth (notebook_tree (injected_notebook n ps report)) ≤ 128
injected_within n ps report values h =
    let all = values_within 127 (top_pairs n) h in
    let cells = all_injected (λ c. depth (cell_tree c) ≤ 126) (length n.cells) (λ is qs few. new_within (fresh_id is) qs) hidden_within n ps report (omega arith)
    (all-unmap (λ x. depth x ≤ 126) cell_tree n.cells (list_within (map cell_tree n.cells) all.0)) in
    let metadata = metadata_injected (λ m. depth m ≤ 127) n ps report all.1.0 (set_within_within 125 (codes "papermill") (codes "parameters") (json.Obj ps) n.metadata all.1.0 (object_within 124 ps values)) in
    object_within 127 (top_pairs (injected_notebook n ps report))
    (within_list (map cell_tree (injected_notebook n ps report).cells) (all-map (λ x. depth x ≤ 126) cell_tree (injected_notebook n ps report).cells cells), (metadata, all.1.1))

pub injected_valid : (n : Notebook) (ps : List (List ℕ × Json)) (report : Bool) → length n.cells < 10 ^ 44 → AllByRecursion (λ p. depth p.1 ≤ 124) ps → Valid (notebook_tree n) → Valid (notebook_tree (injected_notebook n ps report))
injected_valid n ps report few values v =
    record {
      notebook = notebook_tree-fits (injected_notebook n ps report) ∙ injected_fits n ps report few (sym (notebook_tree-fits n) ∙ v.notebook);
      within = injected_within n ps report values v.within;
    }
