-- A prefix of a valid notebook is what a run may leave of it, and so is valid.
use Rattle.std.proofs.Common.{◌≡◌, ℕ, ◌+◌, ◌≤◌, Bool, true, false, List, [], ◌∷◌, map, Option, None, Some, refl, sym, ap, ap₂, ◌∙◌, subst, inl, inr, arith}
use Rattle.std.specs.Prelude.{codes, nat_lt, if◌then◌else◌}
use Rattle.std.specs.List.{All, AllZip}
use Rattle.std.proofs.lemmas.List.Elements.{All-nil}
use Rattle.jtext.specs.declared.json.Json.{Json}
use Rattle.jtext.specs.declared.json.Json.TheVariants as json
use Rattle.jtext.specs.Depth.{depth}
use Rattle.jtext.specs.Edit.{set_field}
use Rattle.jtext.specs.Grammar.{Spells}
use Rattle.jtext.specs.Sound.{Sound}
use Rattle.jtext.specs.Keyed as keyed
use Rattle.jtext.specs.Keyed.{Keyed}
use Rattle.jtext.proofs.Depths.{depth-Bool, depth-Str}
use Rattle.nb_model.specs.declared.cell.Cell.{Cell}
use Rattle.nb_model.specs.declared.kind.Kind.{Kind}
use Rattle.nb_model.specs.declared.kind.Kind.TheVariants as kind
use Rattle.nb_model.specs.declared.notebook.Notebook.{Notebook}
use Rattle.nb_model.specs.Kind.{is_code}
use Rattle.nb_model.specs.Planned.{is_planned}
use Rattle.nb_model.specs.Prepared.{prepared_cell, prepared_notebook}
use Rattle.nb_model.specs.Run as run
use Rattle.nb_model.specs.Run.{IsMarkKey, IsMarked, IsFitOutput, IsRunCellOf, IsRunOf}
use Rattle.nb_model.specs.Tree.{count_tree, cell_tree, notebook_tree}
use Rattle.nb_model.specs.Valid.{Valid}
use Rattle.nb_model.specs.Values.{is_count}
use Rattle.nb_model.proofs.PreparedLaws.{count_is, prepared_valid}
use Rattle.nb_model.proofs.DepthLaws.{prepared_within}
use Rattle.nb_model.proofs.PreparedKeyed.{prepared_keyed}
use Rattle.nb_model.proofs.RunLaws.{run_valid, run_keyed}
use Rattle.nb_model.proofs.SortedValid.{read_valid, read_sorted}
use Rattle.nb_model.proofs.TreeLaws.{pairs_with}
use Rattle.out_fold.specs.declared.used.Used.{Used}
use Rattle.out_fold.specs.Cells.{outputs_of, count_of, dates_of}
use Rattle.out_fold.specs.Fit.{AreRead}
use Rattle.out_fold.proofs.FitCells.{outputs_are_fit, counts_are_fit, dates_are}
use Rattle.progress_save.specs.Prefix.{with_mark, stops_at, executed_cell, marked_cell, settled_cell, saved_cell, saved_metadata, prefix}
use Rattle.progress_save.specs.Saved.{IsReadOf}
use Rattle.nb_text.specs.Notebooks.{text_of}
use Rattle.progress_save.proofs.SettledCells.{changed_from}

-- ---- a cell without what its kind doesn't show

-- a cell that isn't of code without outputs and count, which its tree doesn't have
abbrev bare : Kind → Cell → Cell
bare kind.Raw c = record c { outputs = []; count = None }
bare kind.Markdown c = record c { outputs = []; count = None }
bare kind.Code c = c

abbrev bare_cell : Cell → Cell
bare_cell c = bare c.kind c

kind_stays : (k : Kind) (c : Cell) → (bare k c).kind ≡ c.kind
kind_stays kind.Raw c = refl
kind_stays kind.Markdown c = refl
kind_stays kind.Code c = refl

pairs_stay : (k : Kind) (c : Cell) → pairs_with k (bare k c) ≡ pairs_with k c
pairs_stay kind.Raw c = refl
pairs_stay kind.Markdown c = refl
pairs_stay kind.Code c = refl

bare_tree : (c : Cell) → cell_tree (bare_cell c) ≡ cell_tree c
bare_tree c = ap (λ k. json.Obj (pairs_with k (bare_cell c))) (kind_stays c.kind c) ∙ ap (λ ps. json.Obj ps) (pairs_stay c.kind c)

bare_trees : (cs : List Cell) → map cell_tree (map bare_cell cs) ≡ map cell_tree cs
bare_trees [] = refl
bare_trees (c ∷ cs) = ap₂ (λ t ts. t ∷ ts) (bare_tree c) (bare_trees cs)

abbrev bare_notebook : Notebook → Notebook
bare_notebook n = record n { cells = map bare_cell n.cells }

same_tree : (n : Notebook) → notebook_tree (bare_notebook n) ≡ notebook_tree n
same_tree n = ap (λ ts. json.Obj ((codes "cells", json.Arr ts) ∷ (codes "metadata", n.metadata) ∷ (codes "nbformat", json.Num (codes "4")) ∷ (codes "nbformat_minor", json.Num (codes "5")) ∷ [])) (bare_trees n.cells)

-- ---- marks

papermill : IsMarkKey (codes "papermill")
papermill = inl refl

bool_within : (b : Bool) → depth (json.Bool b) ≤ 123
bool_within b = subst (λ d. d ≤ 123) (sym (depth-Bool b)) (omega arith)

text_within : (s : List ℕ) → depth (json.Str s) ≤ 123
text_within s = subst (λ d. d ≤ 123) (sym (depth-Str s)) (omega arith)

with_mark_is : (b : Bool) (m n : Json) → IsMarked m n → IsMarked m (with_mark b n)
with_mark_is true m n is = run.within m _ _ (codes "papermill") (codes "status") _ (run.within m n _ (codes "papermill") (codes "exception") _ is papermill (keyed.boolean true) (bool_within true) refl) papermill (keyed.text (codes "failed")) (text_within (codes "failed")) refl
with_mark_is false m n is = run.within m _ _ (codes "papermill") (codes "status") _ (run.within m n _ (codes "papermill") (codes "exception") _ is papermill (keyed.boolean false) (bool_within false) refl) papermill (keyed.text (codes "completed")) (text_within (codes "completed")) refl

with_dates_is : (us : List Used) (i : ℕ) (m : Json) → IsMarked m (set_field (codes "execution") (json.Obj (dates_of us i)) m)
with_dates_is us i m =
    let within = (dates_are us i).within in
    run.set m m _ (codes "execution") _ (run.same m) (inr refl) (dates_are us i).keyed (omega (arith, within)) refl

notebook_mark_is : (stop : Option ℕ) (m : Json) → IsMarked m (saved_metadata stop m)
notebook_mark_is None m = run.same m
notebook_mark_is (Some s) m = run.within m m _ (codes "papermill") (codes "exception") _ (run.same m) papermill (keyed.boolean true) (bool_within true) refl

-- ---- cells

none_fit : All IsFitOutput []
none_fit = All-nil IsFitOutput

no_count : is_count (count_tree None) ≡ true
no_count = count_is None

-- what a cell of code has that may be saved
record FitsCode (outputs : List Json) (count : Option (List ℕ)) : Type 0 where
  fit : All IsFitOutput outputs
  counts : is_count (count_tree count) ≡ true

run_cell : (k : Kind) (c : Cell) (os : List Json) (n : Option (List ℕ)) (m : Json) → (is_code k ≡ true → FitsCode os n) → IsMarked c.metadata m
    → IsRunCellOf (bare k c) (bare k (record c { outputs = os; count = n; metadata = m }))
run_cell kind.Raw c os n m fits marked = record { is = refl; outputs = none_fit; count = no_count; metadata = marked }
run_cell kind.Markdown c os n m fits marked = record { is = refl; outputs = none_fit; count = no_count; metadata = marked }
run_cell kind.Code c os n m fits marked = let f = fits refl in record { is = refl; outputs = f.fit; count = f.counts; metadata = marked }

module _ (merge : Bool) (us : List Used) (read : AreRead us) (stop : Option ℕ) where
  executed_fits : (i : ℕ) → FitsCode (outputs_of merge us i) (count_of us i)
  executed_fits i = record { fit = outputs_are_fit merge us i read; counts = counts_are_fit us i read }

  settled_run : (b : Bool) (k : Kind) (i : ℕ) (c : Cell) → (is_code k ≡ true → FitsCode c.outputs c.count)
      → IsRunCellOf (bare k c) (bare k (marked_cell (stops_at stop i) (if b then executed_cell merge us i c else c)))
  settled_run true k i c fits =
      run_cell k c (outputs_of merge us i) (count_of us i) (with_mark (stops_at stop i) (set_field (codes "execution") (json.Obj (dates_of us i)) c.metadata)) (λ e. executed_fits i)
      (with_mark_is (stops_at stop i) c.metadata _ (with_dates_is us i c.metadata))
  settled_run false k i c fits = run_cell k c c.outputs c.count (with_mark (stops_at stop i) c.metadata) fits (with_mark_is (stops_at stop i) c.metadata c.metadata (run.same c.metadata))

  saved_run : (b : Bool) (k : Kind) (i : ℕ) (c : Cell) → (is_code k ≡ true → FitsCode c.outputs c.count)
      → IsRunCellOf (bare k c) (bare k (if b then settled_cell merge us stop i c else c))
  saved_run true k i c fits = settled_run (is_planned c) k i c fits
  saved_run false k i c fits = run_cell k c c.outputs c.count c.metadata fits (run.same c.metadata)

  kind_at : (a b : Bool) (i : ℕ) (c : Cell) → (if a then marked_cell (stops_at stop i) (if b then executed_cell merge us i c else c) else c).kind ≡ c.kind
  kind_at true true i c = refl
  kind_at true false i c = refl
  kind_at false b i c = refl

  saved_bare : (p i : ℕ) (c : Cell) → (is_code c.kind ≡ true → FitsCode c.outputs c.count) → IsRunCellOf (bare_cell c) (bare_cell (saved_cell merge us p stop i c))
  saved_bare p i c fits =
      subst (λ k. IsRunCellOf (bare_cell c) (bare k (saved_cell merge us p stop i c))) (sym (kind_at (nat_lt i p) (is_planned c) i c)) (saved_run (nat_lt i p) c.kind i c fits)

  -- ---- prepared cells

  cleared_fits : (k : Kind) (c : Cell) → is_code k ≡ true → FitsCode (if is_code k then record c { outputs = []; count = None } else c).outputs (if is_code k then record c { outputs = []; count = None } else c).count
  cleared_fits kind.Raw c e = cc
  cleared_fits kind.Markdown c e = cc
  cleared_fits kind.Code c e = record { fit = none_fit; counts = no_count }

  cleared_kind : (b : Bool) (c : Cell) → (if b then record c { outputs = []; count = None } else c).kind ≡ c.kind
  cleared_kind true c = refl
  cleared_kind false c = refl

  prepared_fits : (c : Cell) → is_code (prepared_cell c).kind ≡ true → FitsCode (prepared_cell c).outputs (prepared_cell c).count
  prepared_fits c e = cleared_fits c.kind c (ap is_code (sym (cleared_kind (is_code c.kind) c)) ∙ e)

  cells_run : (p k : ℕ) (cs : List Cell) → AllZip IsRunCellOf (map bare_cell (map prepared_cell cs)) (map bare_cell (changed_from (settled_cell merge us stop) p k (map prepared_cell cs)))
  cells_run p k [] = tt
  cells_run p k (c ∷ cs) = (saved_bare p k (prepared_cell c) (prepared_fits c), cells_run p (k + 1) cs)

  prefix_run : (p : ℕ) (n : Notebook) → IsRunOf (bare_notebook (prepared_notebook n)) (bare_notebook (prefix merge us p stop (prepared_notebook n)))
  prefix_run p n = record { metadata = notebook_mark_is stop (prepared_notebook n).metadata; cells = cells_run p 0 n.cells }

-- ---- a prefix is valid

module _ (merge : Bool) (us : List Used) (p : ℕ) (stop : Option ℕ) (n : Notebook) (read : AreRead us) where
  abbrev m : Notebook
  m = prefix merge us p stop (prepared_notebook n)

  pub prefix_valid : Valid (notebook_tree n) → Valid (notebook_tree m)
  prefix_valid v =
      let before : Valid (notebook_tree (prepared_notebook n)) = record { notebook = prepared_valid n v.notebook; within = prepared_within n v.within } in
      subst Valid (same_tree m)
      (run_valid (bare_notebook (prepared_notebook n)) (bare_notebook m) (prefix_run merge us read stop p n) (subst Valid (sym (same_tree (prepared_notebook n))) before))

  pub prefix_keyed : Keyed (notebook_tree n) → Keyed (notebook_tree m)
  prefix_keyed k =
      subst Keyed (same_tree m)
      (run_keyed (bare_notebook (prepared_notebook n)) (bare_notebook m) (prefix_run merge us read stop p n) (subst Keyed (sym (same_tree (prepared_notebook n))) (prepared_keyed n k)))

  pub prefix_read : (t : Json) → Valid (notebook_tree n) → Keyed (notebook_tree n) → Sound (notebook_tree m) → Spells t (text_of m) → IsReadOf m t
  prefix_read t v k s is =
      let both = read_valid (notebook_tree m) t s (prefix_keyed k) (prefix_valid v) is in
      record { valid = both.0; keyed = both.1; same = read_sorted (notebook_tree m) t s (prefix_keyed k) is }
