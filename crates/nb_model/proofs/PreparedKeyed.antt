-- No object has a key twice when a notebook is prepared, where none had before.
use Rattle.std.proofs.Common.{true, false, List, [], ◌∷◌, map, None, refl, cond, codes}
use Rattle.std.specs.List.{AllByRecursion}
use Rattle.jtext.specs.declared.json.Json.TheVariants as json
use Rattle.jtext.specs.Keyed as keyed
use Rattle.jtext.specs.Keyed.{Keyed}
use Rattle.nb_model.specs.declared.cell.Cell.{Cell}
use Rattle.nb_model.specs.declared.notebook.Notebook.{Notebook}
use Rattle.nb_model.specs.Tree.{cell_tree, notebook_tree}
use Rattle.jtext.specs.Edit.{set_field}
use Rattle.nb_model.specs.Kind.{is_code}
use Rattle.nb_model.specs.Prepared.{pending_mark, cleared_cell, prepared_cell, prepared_notebook}
use Rattle.nb_model.proofs.TreeLaws.{pairs_with}
use Rattle.nb_model.proofs.CellValues.{Values, with_metadata, metadata_in, emptied}
use Rattle.nb_model.proofs.KeyedLemmas.{pairs_of, distinct_from, keyed-set_field, keyed-set_within, cell_keyed, values_keyed, string_list_keyed, notebook_keyed, parts_keyed}

pending_keyed : Keyed pending_mark
pending_keyed =
    let ps = (codes "exception", json.Null) ∷ (codes "status", json.Str (codes "pending")) ∷ [] in
    keyed.object ps (pairs_of ps (keyed.null, (keyed.text (codes "pending"), tt))) (distinct_from ps refl)

prepared_cell_keyed : (c : Cell) → Keyed (cell_tree c) → Keyed (cell_tree (prepared_cell c))
prepared_cell_keyed c k =
    let all = values_keyed c k in
    let empty : Values Keyed (pairs_with (cleared_cell c).kind (cleared_cell c)) =
    elim (is_code c.kind) as (λ b. Values Keyed (pairs_with (cond b (record c { outputs = []; count = None }) c).kind (cond b (record c { outputs = []; count = None }) c))) [
      | true ↦ emptied Keyed c.kind c keyed.null (string_list_keyed []) all
      | false ↦ all
    ] in
    cell_keyed (prepared_cell c) (with_metadata Keyed (cleared_cell c).kind (cleared_cell c) (set_field (codes "papermill") pending_mark c.metadata) (keyed-set_field (codes "papermill") pending_mark c.metadata pending_keyed (metadata_in Keyed c.kind c all)) empty)

cells_prepared : (cs : List Cell) → AllByRecursion (λ c. Keyed (cell_tree c)) cs → AllByRecursion (λ c. Keyed (cell_tree c)) (map prepared_cell cs)
cells_prepared [] all = tt
cells_prepared (c ∷ cs) all = (prepared_cell_keyed c all.0, cells_prepared cs all.1)

pub prepared_keyed : (n : Notebook) → Keyed (notebook_tree n) → Keyed (notebook_tree (prepared_notebook n))
prepared_keyed n k =
    let h = parts_keyed n k in
    notebook_keyed (prepared_notebook n) (cells_prepared n.cells h.0) (keyed-set_within (codes "papermill") (codes "exception") json.Null n.metadata keyed.null h.1)
