-- The cell that is sent has the code and the tags of the cell in the notebook as it was read.
use Rattle.std.proofs.Common.{◌≡◌, ◌≤◌, ◌+◌, arith, ℕ, zero, suc, Bool, List, [], ◌∷◌, map, Option, Some, None, refl, sym, ◌∙◌, ap, inl, inr}
use Rattle.std.specs.Prelude.{codes, nat_lt, option_map, slice_get}
use Rattle.std.specs.List.{enumerate_from}
use Rattle.std.specs.List.{list_any}
use Rattle.std.proofs.lemmas.Bool.{cases_Bool, cond-true, cond-false}
use Rattle.std.proofs.lemmas.Option.{slice_get-map}
use Rattle.jtext.specs.Look.{items, there_and}
use Rattle.nb_model.specs.declared.cell.Cell.{Cell}
use Rattle.nb_model.specs.declared.notebook.Notebook.{Notebook}
use Rattle.nb_model.specs.Keys.{is_text}
use Rattle.nb_model.specs.Kind.{is_code}
use Rattle.nb_model.specs.Planned.{code, joined_text}
use Rattle.nb_model.specs.Prepared.{cleared_cell, pending_mark, prepared_cell, prepared_notebook}
use Rattle.nb_model.specs.Tags.{is_tagged}
use Rattle.nb_model.proofs.PreparedLaws.{field-set_other}
use Rattle.out_fold.specs.declared.used.Used.{Used}
use Rattle.progress_save.specs.Prefix.{prefix, saved_cell}
use Rattle.run_journal.specs.Asked.{code_in, may_raise as may_raise_in}
use Rattle.job_run.specs.Said.{may_raise}

cleared : (c : Cell) → ((cleared_cell c).metadata ≡ c.metadata) × ((cleared_cell c).source ≡ c.source)
cleared c =
    let empty : Cell = record c { outputs = []; count = None } in
    elim (cases_Bool (is_code c.kind)) [
      | inl t ↦ (ap (λ (d : Cell). d.metadata) (cond-true (is_code c.kind) empty c t), ap (λ (d : Cell). d.source) (cond-true (is_code c.kind) empty c t))
      | inr f ↦ (ap (λ (d : Cell). d.metadata) (cond-false (is_code c.kind) empty c f), ap (λ (d : Cell). d.source) (cond-false (is_code c.kind) empty c f))
    ]

prepared_code : (c : Cell) → code (prepared_cell c) ≡ code c
prepared_code c = ap joined_text (cleared c).1

prepared_tag : (tag : List ℕ) (c : Cell) → is_tagged tag (prepared_cell c) ≡ is_tagged tag c
prepared_tag tag c =
    ap (there_and (λ v. list_any (is_text tag) (items v))) (field-set_other (codes "tags") (codes "papermill") pending_mark c.metadata refl)

-- a cell of the notebook that is kept, which isn't settled, is the prepared one
module _ (n : Notebook) (cell : ℕ) (c : Cell) where
  of_prepared : (o : Option Cell) → slice_get n.cells cell ≡ o → option_map prepared_cell o ≡ Some c → (code c ≡ code_in (slice_get n.cells cell)) × (may_raise c ≡ may_raise_in (slice_get n.cells cell))
  of_prepared None at is = absurd (cc)
  of_prepared (Some d) at is =
      let same : prepared_cell d ≡ c = cc in (
        ap code (sym same) ∙ prepared_code d ∙ ap code_in (sym at),
        ap may_raise (sym same) ∙ prepared_tag (codes "raises-exception") d ∙ ap may_raise_in (sym at),
      )

  pub cell_as_read : slice_get (prepared_notebook n).cells cell ≡ Some c → (code c ≡ code_in (slice_get n.cells cell)) × (may_raise c ≡ may_raise_in (slice_get n.cells cell))
  cell_as_read is = of_prepared (slice_get n.cells cell) refl (sym (slice_get-map prepared_cell n.cells cell) ∙ is)

-- ---- a cell that isn't settled

module _ (merge : Bool) (us : List Used) (settled : ℕ) where
  waits : (i : ℕ) (c : Cell) → settled ≤ i → saved_cell merge us settled None i c ≡ c
  waits i c le = cond-false (nat_lt i settled) _ _ (grind (arith, le))

  get_waiting : (k i : ℕ) (cs : List Cell) → settled ≤ k + i → slice_get (map (λ q. saved_cell merge us settled None q.0 q.1) (enumerate_from k cs)) i ≡ slice_get cs i
  get_waiting k i [] le = refl
  get_waiting k zero (c ∷ cs) le = ap Some (waits k c (omega (arith, le)))
  get_waiting k (suc i) (c ∷ cs) le = get_waiting (k + 1) i cs (omega (arith, le))

  -- it is that of the notebook before its cells were executed
  pub waiting_as_first : (i : ℕ) (n : Notebook) (c : Cell) → settled ≤ i → slice_get (prefix merge us settled None n).cells i ≡ Some c → slice_get n.cells i ≡ Some c
  waiting_as_first i n c above is = sym (get_waiting 0 i n.cells (omega (arith, above))) ∙ is
