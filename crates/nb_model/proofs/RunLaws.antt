-- A notebook after a run, or a part of one, is valid and keyed where it was before.
use Rattle.std.proofs.Common.{◌≡◌, ℕ, suc, ◌≤◌, Bool, true, false, ◌&&◌, List, [], ◌∷◌, map, Option, Some, None, refl, sym, ap, ap₂, ◌∙◌, inl, inr, subst, arith}
use Rattle.std.specs.Prelude.{codes, unwrap_or}
use Rattle.std.specs.List.{AllByRecursion, AllZip, list_all}
use Rattle.std.specs.Str.{bytes_eq}
use Rattle.std.proofs.lemmas.List.Elements.{recursion_from_All}
use Rattle.std.proofs.lemmas.Bool.{and_parts}
use Rattle.jtext.specs.declared.json.Json.{Json}
use Rattle.jtext.specs.declared.json.Json.TheVariants as json
use Rattle.jtext.specs.Depth.{depth}
use Rattle.jtext.specs.Find.{field}
use Rattle.jtext.specs.Keyed as keyed
use Rattle.jtext.specs.Keyed.{Keyed}
use Rattle.jtext.specs.Look.{absent_or}
use Rattle.jtext.proofs.Depths.{depth-Arr, depth-Null, depth-Num, highest-le}
use Rattle.jtext.proofs.Sorts.{all_weaker}
use Rattle.nb_model.specs.declared.kind.Kind.{Kind}
use Rattle.nb_model.specs.declared.kind.Kind.TheVariants as kind
use Rattle.nb_model.specs.declared.cell.Cell.{Cell}
use Rattle.nb_model.specs.declared.notebook.Notebook.{Notebook}
use Rattle.jtext.specs.Edit.{set_field, set_within}
use Rattle.nb_model.specs.Run as run
use Rattle.nb_model.specs.Run.{IsMarkKey, IsMarked, IsFitOutput, IsRunCellOf, IsRunOf}
use Rattle.nb_model.specs.Tree.{count_tree, cell_tree, notebook_tree}
use Rattle.nb_model.specs.Valid as valid
use Rattle.nb_model.proofs.CellValues.{Values, top_pairs, metadata_in, with_metadata, with_outputs, all-map, all-unmap}
use Rattle.nb_model.proofs.DepthLaws.{object_within, values_within, field_set_within, set_within_within, list_within, within_list}
use Rattle.nb_model.proofs.KeyedLemmas.{keyed-set_field, keyed-set_within, cell_keyed, values_keyed, notebook_keyed, parts_keyed, items_of}
use Rattle.nb_model.proofs.PreparedLaws.{and_eq, count_is, common_fits, count_fits, kind_fits, cell_fits, no_repeat, common_kept, metadata_of, cell_metadata_kept, metadata_kept_at, notebook_fits, notebook_tree-fits}
use Rattle.nb_model.proofs.TreeLaws.{pairs_with}

-- ---- marks

-- a mark key isn't this other key
apart : (other key : List ℕ) → IsMarkKey key → bytes_eq (codes "papermill") other ≡ false → bytes_eq (codes "execution") other ≡ false → bytes_eq key other ≡ false
apart other key is p x = elim is [ inl e ↦ ap (λ k. bytes_eq k other) e ∙ p | inr e ↦ ap (λ k. bytes_eq k other) e ∙ x ]

-- what holds of the old metadata and is kept by each mark, holds of the new
marked : (P : Json → Type 0) → ((key : List ℕ) (v n : Json) → IsMarkKey key → Keyed v → depth v ≤ 124 → P n → P (set_field key v n))
    → ((outer key : List ℕ) (v n : Json) → IsMarkKey outer → Keyed v → depth v ≤ 123 → P n → P (set_within outer key v n))
    → (m n : Json) → IsMarked m n → P m → P n
marked P sets withins _ _ (run.same m) h = h
marked P sets withins _ _ (run.set m n p key v before is k d e) h = subst P (sym e) (sets key v n is k d (marked P sets withins m n before h))
marked P sets withins _ _ (run.within m n p outer key v before is k d e) h = subst P (sym e) (withins outer key v n is k d (marked P sets withins m n before h))

cell_metadata : (m n : Json) → IsMarked m n → valid.is_cell_metadata m ≡ true → valid.is_cell_metadata n ≡ true
cell_metadata = marked (λ n. valid.is_cell_metadata n ≡ true)
    (λ key v n is k d h. cell_metadata_kept key v n (apart (codes "tags") key is refl refl) h)
    (λ outer key v n is k d h. cell_metadata_kept outer (set_field key v (unwrap_or (field n outer) json.Null)) n (apart (codes "tags") outer is refl refl) h)

metadata : (m n : Json) → IsMarked m n → valid.is_metadata m ≡ true → valid.is_metadata n ≡ true
metadata = marked (λ n. valid.is_metadata n ≡ true)
    (λ key v n is k d h. metadata_kept_at key v n (apart (codes "kernelspec") key is refl refl) (apart (codes "language_info") key is refl refl) h)
    (λ outer key v n is k d h. metadata_kept_at outer (set_field key v (unwrap_or (field n outer) json.Null)) n (apart (codes "kernelspec") outer is refl refl) (apart (codes "language_info") outer is refl refl) h)

metadata_keyed : (m n : Json) → IsMarked m n → Keyed m → Keyed n
metadata_keyed = marked Keyed (λ key v n is k d h. keyed-set_field key v n k h) (λ outer key v n is k d h. keyed-set_within outer key v n k h)

metadata_within : (room : ℕ) → 123 ≤ room → (m n : Json) → IsMarked m n → depth m ≤ suc (suc room) → depth n ≤ suc (suc room)
metadata_within room r = marked (λ n. depth n ≤ suc (suc room))
    (λ key v n is k d h. field_set_within (suc room) key v n h (omega (arith, d, r)))
    (λ outer key v n is k d h. set_within_within room outer key v n h (omega (arith, d, r)))

-- ---- cells

abbrev changed : Cell → Cell → Cell
changed old new = record old { outputs = new.outputs; count = new.count; metadata = new.metadata }

all_true : {A : Type 0} (P : A → Type 0) (test : A → Bool) → ((x : A) → P x → test x ≡ true) → (xs : List A) → AllByRecursion P xs → list_all test xs ≡ true
all_true P test holds [] all = refl
all_true P test holds (x ∷ xs) all = and_eq (holds x all.0) (all_true P test holds xs all.1)

fit_outputs : (old new : Cell) → IsRunCellOf old new → AllByRecursion IsFitOutput new.outputs
fit_outputs old new r = recursion_from_All IsFitOutput new.outputs r.outputs

kind_run : (k : Kind) (old new : Cell) → IsRunCellOf old new → kind_fits k old ≡ true → kind_fits k (changed old new) ≡ true
kind_run kind.Raw old new r e =
    let h = and_parts (common_fits old) (absent_or valid.are_attachments old.attachments) e in
    and_eq (common_kept old new.metadata (cell_metadata old.metadata new.metadata r.metadata (metadata_of old h.0)) h.0) h.1
kind_run kind.Markdown old new r e =
    let h = and_parts (common_fits old) (absent_or valid.are_attachments old.attachments) e in
    and_eq (common_kept old new.metadata (cell_metadata old.metadata new.metadata r.metadata (metadata_of old h.0)) h.0) h.1
kind_run kind.Code old new r e =
    let h = and_parts (common_fits old && list_all valid.is_output old.outputs) (count_fits old.count) e in
    let g = and_parts (common_fits old) (list_all valid.is_output old.outputs) h.0 in
    and_eq (and_eq (common_kept old new.metadata (cell_metadata old.metadata new.metadata r.metadata (metadata_of old g.0)) g.0)
    (all_true IsFitOutput valid.is_output (λ o is. is.valid) new.outputs (fit_outputs old new r))) (sym (count_is new.count) ∙ r.count)

cell_run : (old new : Cell) → IsRunCellOf old new → cell_fits old ≡ true → cell_fits new ≡ true
cell_run old new r e = ap cell_fits r.is ∙ kind_run old.kind old new r e

module _ (Q : Json → Type 0) where
  -- what holds of each value of a cell, of its new metadata, its new count and its new outputs
  values_run : (old new : Cell) → IsRunCellOf old new → (Q old.metadata → Q new.metadata) → Q (count_tree new.count) → Q (json.Arr new.outputs)
      → Values Q (pairs_with old.kind old) → Values Q (pairs_with old.kind (changed old new))
  values_run old new r marks count outputs all =
      with_metadata Q old.kind (record old { outputs = new.outputs; count = new.count }) new.metadata (marks (metadata_in Q old.kind old all))
      (with_outputs Q old.kind old new.outputs new.count count outputs all)

count_keyed : (o : Option (List ℕ)) → Keyed (count_tree o)
count_keyed o = elim o as (λ q. Keyed (count_tree q)) [ None ↦ keyed.null | Some s ↦ keyed.number s ]

count_within : (m : ℕ) (o : Option (List ℕ)) → depth (count_tree o) ≤ m
count_within m o = elim o as (λ q. depth (count_tree q) ≤ m) [ None ↦ (let e = depth-Null in omega (arith, e)) | Some s ↦ (let e = depth-Num s in omega (arith, e)) ]

outputs_within : (xs : List Json) → AllByRecursion IsFitOutput xs → depth (json.Arr xs) ≤ 125
outputs_within xs all =
    let e = depth-Arr xs in
    let h = highest-le 124 xs (all_weaker IsFitOutput (λ o. depth o ≤ 124) (λ o is. is.within) xs all) in omega (arith, e, h)

cell_run_keyed : (old new : Cell) → IsRunCellOf old new → Keyed (cell_tree old) → Keyed (cell_tree new)
cell_run_keyed old new r k =
    let outputs = keyed.array new.outputs (items_of new.outputs (all_weaker IsFitOutput Keyed (λ o is. is.keyed) new.outputs (fit_outputs old new r))) in
    subst (λ c. Keyed (cell_tree c)) (sym r.is)
    (cell_keyed (changed old new) (values_run Keyed old new r (metadata_keyed old.metadata new.metadata r.metadata) (count_keyed new.count) outputs (values_keyed old k)))

cell_run_within : (old new : Cell) → IsRunCellOf old new → depth (cell_tree old) ≤ 126 → depth (cell_tree new) ≤ 126
cell_run_within old new r h =
    subst (λ c. depth (cell_tree c) ≤ 126) (sym r.is)
    (object_within 125 (pairs_with old.kind (changed old new)) (values_run (λ v. depth v ≤ 125) old new r (metadata_within 123 (omega arith) old.metadata new.metadata r.metadata)
    (count_within 125 new.count) (outputs_within new.outputs (fit_outputs old new r)) (values_within 125 (pairs_with old.kind old) h)))

-- ---- notebooks

all_run : (P : Cell → Type 0) → ((old new : Cell) → IsRunCellOf old new → P old → P new) → (old new : List Cell) → AllZip IsRunCellOf old new → AllByRecursion P old → AllByRecursion P new
all_run P f [] [] z all = tt
all_run P f [] (d ∷ ds) z all = absurd z
all_run P f (c ∷ cs) [] z all = absurd z
all_run P f (c ∷ cs) (d ∷ ds) z all = (f c d z.0 all.0, all_run P f cs ds z.1 all.1)

fits_run : (old new : List Cell) → AllZip IsRunCellOf old new → list_all cell_fits old ≡ true → list_all cell_fits new ≡ true
fits_run [] [] z e = refl
fits_run [] (d ∷ ds) z e = absurd z
fits_run (c ∷ cs) [] z e = absurd z
fits_run (c ∷ cs) (d ∷ ds) z e = let h = and_parts (cell_fits c) (list_all cell_fits cs) e in and_eq (cell_run c d z.0 h.0) (fits_run cs ds z.1 h.1)

ids_run : (old new : List Cell) → AllZip IsRunCellOf old new → map (λ c. c.id) new ≡ map (λ c. c.id) old
ids_run [] [] z = refl
ids_run [] (d ∷ ds) z = absurd z
ids_run (c ∷ cs) [] z = absurd z
ids_run (c ∷ cs) (d ∷ ds) z = ap₂ (λ i is. i ∷ is) (ap (λ x. x.id) (z.0).is) (ids_run cs ds z.1)

fits : (old new : Notebook) → IsRunOf old new → notebook_fits old ≡ true → notebook_fits new ≡ true
fits old new r e =
    let h = and_parts (valid.is_metadata old.metadata) (list_all cell_fits old.cells && no_repeat (map (λ c. c.id) old.cells)) e in
    let g = and_parts (list_all cell_fits old.cells) (no_repeat (map (λ c. c.id) old.cells)) h.1 in
    and_eq (metadata old.metadata new.metadata r.metadata h.0) (and_eq (fits_run old.cells new.cells r.cells g.0) (ap no_repeat (ids_run old.cells new.cells r.cells) ∙ g.1))

within : (old new : Notebook) → IsRunOf old new → depth (notebook_tree old) ≤ 128 → depth (notebook_tree new) ≤ 128
within old new r h =
    let all = values_within 127 (top_pairs old) h in
    let before = all-unmap (λ x. depth x ≤ 126) cell_tree old.cells (list_within (map cell_tree old.cells) all.0) in
    let cells = all_run (λ c. depth (cell_tree c) ≤ 126) cell_run_within old.cells new.cells r.cells before in
    object_within 127 (top_pairs new) (
      within_list (map cell_tree new.cells) (all-map (λ x. depth x ≤ 126) cell_tree new.cells cells),
      (metadata_within 125 (omega arith) old.metadata new.metadata r.metadata all.1.0, all.1.1),
    )

pub run_valid : (old new : Notebook) → IsRunOf old new → valid.Valid (notebook_tree old) → valid.Valid (notebook_tree new)
run_valid old new r v =
    record { notebook = notebook_tree-fits new ∙ fits old new r (sym (notebook_tree-fits old) ∙ v.notebook); within = within old new r v.within }

pub run_keyed : (old new : Notebook) → IsRunOf old new → Keyed (notebook_tree old) → Keyed (notebook_tree new)
run_keyed old new r k =
    let h = parts_keyed old k in
    notebook_keyed new (all_run (λ c. Keyed (cell_tree c)) cell_run_keyed old.cells new.cells r.cells h.0) (metadata_keyed old.metadata new.metadata r.metadata h.1)
