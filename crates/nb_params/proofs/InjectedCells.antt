-- What holds of every value of each cell, when a cell is injected and sources are hidden.
use Rattle.std.proofs.Common.{ℕ, ◌≤◌, Bool, true, false, List, [], ◌∷◌, ◌++◌, map, length, sym, arith, subst, cond, codes}
use Rattle.std.specs.List.{AllByRecursion}
use Rattle.jtext.specs.declared.json.Json.{Json}
use Rattle.jtext.specs.declared.json.Json.TheVariants as json
use Rattle.nb_model.specs.declared.cell.Cell.{Cell}
use Rattle.nb_model.specs.declared.notebook.Notebook.{Notebook}
use Rattle.jtext.specs.Edit.{set_within}
use Rattle.nb_model.specs.Kind.{is_code}
use Rattle.nb_params.specs.Injected.{hidden_cell, with_parameters, parameters_cell, fresh_id, ids, recorded_metadata, parametrised_notebook, injected_notebook}
use Rattle.nb_model.proofs.CellValues.{Values, metadata_in, with_metadata}
use Rattle.nb_model.proofs.TreeLaws.{pairs_with}
use Rattle.nb_params.proofs.Placements.{placed, all-rest, all-between, length-ids_rest}

-- a code cell whose source is hidden
pub hidden_values : (Q : Json → Type 0) → ((m : Json) → Q m → Q (set_within (codes "jupyter") (codes "source_hidden") (json.Bool true) m)) → (c : Cell) → Values Q (pairs_with c.kind c) → Values Q (pairs_with (hidden_cell c).kind (hidden_cell c))
hidden_values Q sets c all =
    elim (is_code c.kind) as (λ b. Values Q (pairs_with (cond b (record c { metadata = set_within (codes "jupyter") (codes "source_hidden") (json.Bool true) c.metadata }) c).kind (cond b (record c { metadata = set_within (codes "jupyter") (codes "source_hidden") (json.Bool true) c.metadata }) c))) [
      | true ↦ with_metadata Q c.kind c (set_within (codes "jupyter") (codes "source_hidden") (json.Bool true) c.metadata) (sets c.metadata (metadata_in Q c.kind c all)) all
      | false ↦ all
    ]

-- ---- all cells

module _ (S : Cell → Type 0) (most : ℕ) (new : (is : List (List ℕ)) (ps : List (List ℕ × Json)) → length is ≤ most → S (parameters_cell (fresh_id is) ps)) (hides : (c : Cell) → S c → S (hidden_cell c)) where
  all_placed : (ps : List (List ℕ × Json)) (cells : List Cell) → length cells ≤ most → AllByRecursion S cells → AllByRecursion S (with_parameters ps cells)
  all_placed ps cells h all =
      let p = placed ps cells in
      let fewer = length-ids_rest cells (p.front ++ p.back) p.rest in
      subst (AllByRecursion S) (sym p.is)
      (all-between S p.front (parameters_cell (fresh_id (ids (p.front ++ p.back))) ps) p.back (all-rest S cells (p.front ++ p.back) p.rest all) (new (ids (p.front ++ p.back)) ps (omega arith)))

  all_parametrised : (n : Notebook) (ps : List (List ℕ × Json)) → length n.cells ≤ most → AllByRecursion S n.cells → AllByRecursion S (parametrised_notebook n ps).cells
  all_parametrised n [] h all = all
  all_parametrised n (p ∷ ps) h all = all_placed (p ∷ ps) n.cells h all

  all_hidden : (cells : List Cell) → AllByRecursion S cells → AllByRecursion S (map hidden_cell cells)
  all_hidden [] all = tt
  all_hidden (c ∷ cs) all = (hides c all.0, all_hidden cs all.1)

  pub all_injected : (n : Notebook) (ps : List (List ℕ × Json)) (report : Bool) → length n.cells ≤ most → AllByRecursion S n.cells → AllByRecursion S (injected_notebook n ps report).cells
  all_injected n ps true h all = all_hidden (parametrised_notebook n ps).cells (all_parametrised n ps h all)
  all_injected n ps false h all = all_parametrised n ps h all

-- ---- metadata

recorded_or_not : (T : Json → Type 0) (n : Notebook) (ps : List (List ℕ × Json)) → T n.metadata → T (recorded_metadata ps n.metadata) → T (parametrised_notebook n ps).metadata
recorded_or_not T n [] is new = is
recorded_or_not T n (p ∷ ps) is new = new

pub metadata_injected : (T : Json → Type 0) (n : Notebook) (ps : List (List ℕ × Json)) (report : Bool) → T n.metadata → T (recorded_metadata ps n.metadata) → T (injected_notebook n ps report).metadata
metadata_injected T n ps true is new = recorded_or_not T n ps is new
metadata_injected T n ps false is new = recorded_or_not T n ps is new
