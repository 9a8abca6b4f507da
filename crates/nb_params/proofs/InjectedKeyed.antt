-- No object has a key twice when parameters are injected, where none had before.
use Rattle.std.proofs.Common.{ℕ, Bool, true, List, [], ◌∷◌, length, refl, arith, codes}
use Rattle.jtext.specs.declared.json.Json.{Json}
use Rattle.jtext.specs.declared.json.Json.TheVariants as json
use Rattle.jtext.specs.Grammar.{Distinct}
use Rattle.jtext.specs.Keyed as keyed
use Rattle.jtext.specs.Keyed.{Keyed, PairsKeyed}
use Rattle.nb_model.specs.declared.cell.Cell.{Cell}
use Rattle.nb_model.specs.declared.notebook.Notebook.{Notebook}
use Rattle.nb_model.specs.Lines.{lines_of}
use Rattle.nb_params.specs.Python.{python}
use Rattle.nb_model.specs.Tree.{cell_tree, notebook_tree}
use Rattle.nb_params.specs.Injected.{hidden_cell, parameters_cell, fresh_id, injected_notebook}
use Rattle.nb_model.proofs.KeyedLemmas.{pairs_of, distinct_from, keyed-set_within, cell_keyed, values_keyed, string_list_keyed, notebook_keyed, parts_keyed}
use Rattle.nb_params.proofs.InjectedCells.{hidden_values, all_injected, metadata_injected}

new_keyed : (id : List ℕ) (ps : List (List ℕ × Json)) → Keyed (cell_tree (parameters_cell id ps))
new_keyed id ps =
    let tags = (codes "tags", json.Arr (json.Str (codes "injected-parameters") ∷ [])) ∷ [] in
    let metadata = keyed.object tags (pairs_of tags (string_list_keyed (codes "injected-parameters" ∷ []), tt)) (distinct_from tags refl) in
    cell_keyed (parameters_cell id ps) (keyed.text (codes "code"), (keyed.null, (keyed.text id, (metadata, (string_list_keyed [], (string_list_keyed (lines_of (python ps)), tt))))))

hidden_keyed : (c : Cell) → Keyed (cell_tree c) → Keyed (cell_tree (hidden_cell c))
hidden_keyed c k =
    cell_keyed (hidden_cell c) (hidden_values Keyed (λ m h. keyed-set_within (codes "jupyter") (codes "source_hidden") (json.Bool true) m (keyed.boolean true) h) c (values_keyed c k))

pub injected_keyed : (n : Notebook) (ps : List (List ℕ × Json)) (report : Bool) → PairsKeyed ps → Distinct ps → Keyed (notebook_tree n) → Keyed (notebook_tree (injected_notebook n ps report))
injected_keyed n ps report values names k =
    let h = parts_keyed n k in
    let cells = all_injected (λ c. Keyed (cell_tree c)) (length n.cells) (λ is qs few. new_keyed (fresh_id is) qs) hidden_keyed n ps report (omega arith) h.0 in
    let metadata = metadata_injected Keyed n ps report h.1 (keyed-set_within (codes "papermill") (codes "parameters") (json.Obj ps) n.metadata (keyed.object ps values names) h.1) in
    notebook_keyed (injected_notebook n ps report) cells metadata
