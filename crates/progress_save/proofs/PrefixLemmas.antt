-- Prefixes cell by cell, and what one leaves of another.
use Rattle.std.proofs.Common.{◌≡◌, ℕ, zero, suc, ◌+◌, ◌<◌, ◌≤◌, Bool, true, false, ◌&&◌, not, List, [], ◌∷◌, Option, None, Some, refl, sym, ap, ap₂, ◌∙◌, inl, inr, arith, option_map}
use Rattle.std.specs.Prelude.{codes, slice_get, if◌then◌else◌}
use Rattle.std.specs.List.{list_any}
use Rattle.std.proofs.lemmas.Bool.{cases_lt}
use Rattle.jtext.specs.declared.json.Json.{Json}
use Rattle.jtext.specs.declared.json.Json.TheVariants as json
use Rattle.jtext.specs.Find.{field}
use Rattle.jtext.specs.Look.{items, there_and}
use Rattle.jtext.specs.Edit.{set_field}
use Rattle.nb_model.specs.declared.cell.Cell.{Cell}
use Rattle.nb_model.specs.declared.notebook.Notebook.{Notebook}
use Rattle.nb_model.specs.Keys.{is_text}
use Rattle.nb_model.specs.Kind.{is_code}
use Rattle.nb_model.specs.Planned.{code, is_blank, is_planned, planned_from, plan}
use Rattle.nb_model.proofs.PreparedLaws.{field-set_other}
use Rattle.nb_model.proofs.PairsLemmas.{same_notebook}
use Rattle.out_fold.specs.declared.used.Used.{Used}
use Rattle.out_fold.specs.Cells.{outputs_of, count_of, dates_of}
use Rattle.out_fold.specs.Stands.{SameCell}
use Rattle.progress_save.specs.Prefix.{with_mark, stops_at, executed_cell, folded_cell, marked_cell, settled_cell, saved_cell, prefix}
use Rattle.progress_save.proofs.MarkLemmas.{mark_again, mark_and_dates_again, mark_elsewhere}
use Rattle.progress_save.proofs.SettledCells.{changed, changed_from, below, above, none_changed}

-- ---- cell by cell

module _ {X : Type 0} (f : ℕ → X → X) (m : ℕ) where
  get_changed : (k i j : ℕ) (xs : List X) → j ≡ k + i → slice_get (changed_from f m k xs) i ≡ option_map (changed f m j) (slice_get xs i)
  get_changed k i j [] e = refl
  get_changed k zero j (x ∷ xs) e = ap (λ n. Some (changed f m n x)) (omega (arith, e))
  get_changed k (suc i) j (x ∷ xs) e = get_changed (k + 1) i j xs (omega (arith, e))

pub cell_of_prefix : (merge : Bool) (us : List Used) (p : ℕ) (stop : Option ℕ) (n : Notebook) (i : ℕ) → slice_get (prefix merge us p stop n).cells i ≡ option_map (saved_cell merge us p stop i) (slice_get n.cells i)
cell_of_prefix merge us p stop n i = get_changed (settled_cell merge us stop) p 0 i i n.cells (omega arith)

pub empty_prefix : (merge : Bool) (us : List Used) (n : Notebook) → prefix merge us 0 None n ≡ n
empty_prefix merge us n = same_notebook refl (none_changed (settled_cell merge us None) 0 0 n.cells (omega arith))

-- ---- a cell that nothing touches

module _ (merge : Bool) (was us : List Used) (i : ℕ) (c : Cell) (same : SameCell merge was us i) where
  folded_same : folded_cell merge us i c ≡ folded_cell merge was i c
  folded_same =
      ap (λ os. if is_planned c then with_run os (count_of us i) (dates_of us i) else c) same.outputs
      ∙ ap (λ k. if is_planned c then with_run (outputs_of merge was i) k (dates_of us i) else c) same.count
      ∙ ap (λ d. if is_planned c then with_run (outputs_of merge was i) (count_of was i) d else c) same.dates
    where
      with_run : List Json → Option (List ℕ) → List (List ℕ × Json) → Cell
      with_run os k d = record c { outputs = os; count = k; metadata = set_field (codes "execution") (json.Obj d) c.metadata }

  pub untouched_cell : (p q : ℕ) (stop : Option ℕ) → i < p → p ≤ q → stops_at stop i ≡ false → saved_cell merge us q stop i c ≡ saved_cell merge was p None i c
  untouched_cell p q stop lt le on =
      below (settled_cell merge us stop) q i c (omega (arith, lt, le))
      ∙ ap (λ b. marked_cell b (folded_cell merge us i c)) on
      ∙ ap (marked_cell false) folded_same
      ∙ sym (below (settled_cell merge was None) p i c lt)

pub waiting_cell : (merge : Bool) (us : List Used) (p : ℕ) (stop : Option ℕ) (i : ℕ) (c : Cell) → p ≤ i → saved_cell merge us p stop i c ≡ c
waiting_cell merge us p stop i c le = above (settled_cell merge us stop) p i c le

-- ---- the plan

tags_kept : (b c : Bool) (d m : Json) → (if b then field (with_mark c (set_field (codes "execution") d m)) (codes "tags") else field (with_mark c m) (codes "tags")) ≡ field m (codes "tags")
tags_kept true c d m = mark_elsewhere c (codes "tags") (set_field (codes "execution") d m) refl ∙ field-set_other (codes "tags") (codes "execution") d m refl
tags_kept false c d m = mark_elsewhere c (codes "tags") m refl

-- whether a cell is executed, by what is under `tags`
abbrev planned_by : Cell → Option Json → Bool
planned_by c tags = is_code c.kind && not (is_blank (code c)) && not (there_and (λ v. list_any (is_text (codes "skip-execution")) (items v)) tags)

planned_at : (b s : Bool) (merge : Bool) (us : List Used) (i : ℕ) (c : Cell) → is_planned (marked_cell s (if b then executed_cell merge us i c else c)) ≡ is_planned c
planned_at true s merge us i c = ap (planned_by c) (tags_kept true s (json.Obj (dates_of us i)) c.metadata)
planned_at false s merge us i c = ap (planned_by c) (tags_kept false s json.Null c.metadata)

planned_settled : (merge : Bool) (us : List Used) (stop : Option ℕ) (i : ℕ) (c : Cell) → is_planned (settled_cell merge us stop i c) ≡ is_planned c
planned_settled merge us stop i c = planned_at (is_planned c) (stops_at stop i) merge us i c

module _ (f : ℕ → Cell → Cell) (m : ℕ) (keeps : (i : ℕ) (c : Cell) → is_planned (f i c) ≡ is_planned c) where
  planned_changed : (k : ℕ) (c : Cell) → is_planned (changed f m k c) ≡ is_planned c
  planned_changed k c = elim (cases_lt k m) [ inl lt ↦ ap is_planned (below f m k c lt) ∙ keeps k c | inr ge ↦ ap is_planned (above f m k c ge) ]

  plan_kept : (k : ℕ) (cs : List Cell) → planned_from k (changed_from f m k cs) ≡ planned_from k cs
  plan_kept k [] = refl
  plan_kept k (c ∷ cs) =
      ap (λ b. if b then k ∷ planned_from (k + 1) (changed_from f m (k + 1) cs) else planned_from (k + 1) (changed_from f m (k + 1) cs)) (planned_changed k c)
      ∙ ap (λ ks. if is_planned c then k ∷ ks else ks) (plan_kept (k + 1) cs)

pub prefix_plan : (merge : Bool) (us : List Used) (p : ℕ) (stop : Option ℕ) (n : Notebook) → plan (prefix merge us p stop n) ≡ plan n
prefix_plan merge us p stop n = plan_kept (settled_cell merge us stop) p (planned_settled merge us stop) 0 n.cells

-- ---- settled again

again_at : (b s t : Bool) (merge : Bool) (us vs : List Used) (i : ℕ) (c : Cell)
    → marked_cell t (if b then executed_cell merge vs i (marked_cell s (if b then executed_cell merge us i c else c)) else marked_cell s (if b then executed_cell merge us i c else c))
    ≡ marked_cell t (if b then executed_cell merge vs i c else c)
again_at true s t merge us vs i c =
    ap (λ m. record (executed_cell merge vs i c) { metadata = m }) (mark_and_dates_again s t (json.Obj (dates_of us i)) (json.Obj (dates_of vs i)) c.metadata)
again_at false s t merge us vs i c = ap (λ m. record c { metadata = m }) (mark_again s t c.metadata)

again : (merge : Bool) (us vs : List Used) (stop : Option ℕ) (i : ℕ) (c : Cell) → settled_cell merge vs stop i (settled_cell merge us None i c) ≡ settled_cell merge vs stop i c
again merge us vs stop i c =
    ap (λ b. marked_cell (stops_at stop i) (if b then executed_cell merge vs i (settled_cell merge us None i c) else settled_cell merge us None i c)) (planned_settled merge us None i c)
    ∙ again_at (is_planned c) false (stops_at stop i) merge us vs i c

module _ {X : Type 0} (f g : ℕ → X → X) (absorbs : (i : ℕ) (x : X) → g i (f i x) ≡ g i x) (p q : ℕ) (le : p ≤ q) where
  changed_again : (k : ℕ) (x : X) → changed g q k (changed f p k x) ≡ changed g q k x
  changed_again k x = elim (cases_lt k p) [
    | inl lt ↦ ap (changed g q k) (below f p k x lt) ∙ below g q k (f k x) (omega (arith, lt, le)) ∙ absorbs k x ∙ sym (below g q k x (omega (arith, lt, le)))
    | inr ge ↦ ap (changed g q k) (above f p k x ge)
  ]

  all_again : (k : ℕ) (xs : List X) → changed_from g q k (changed_from f p k xs) ≡ changed_from g q k xs
  all_again k [] = refl
  all_again k (x ∷ xs) = ap₂ (λ y ys. y ∷ ys) (changed_again k x) (all_again (k + 1) xs)

pub prefix_again : (merge : Bool) (us vs : List Used) (p q : ℕ) (stop : Option ℕ) (n : Notebook) → p ≤ q → prefix merge vs q stop (prefix merge us p None n) ≡ prefix merge vs q stop n
prefix_again merge us vs p q stop n le =
    same_notebook refl (all_again (settled_cell merge us None) (settled_cell merge vs stop) (again merge us vs stop) p q le 0 n.cells)
