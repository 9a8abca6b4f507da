-- A script reads back as the notebook that it was made of.
use Rattle.std.proofs.Common.{◌≡◌, ℕ, ◌+◌, inl, inr, true, List, [], ◌∷◌, ◌++◌, map, refl, sym, ◌∙◌, ap, subst}
use Rattle.std.specs.List.{AllByRecursion, flat_map}
use Rattle.std.specs.Str.{IsUtf8}
use Rattle.std.specs.Prelude.{unwrap_or}
use Rattle.jtext.specs.declared.json.Json.{Json}
use Rattle.jtext.specs.declared.json.Json.TheVariants as json
use Rattle.jtext.specs.Look.{text_of, string_layer, items_layer}
use Rattle.jtext.proofs.Trees.{open_Str, open_Arr}
use Rattle.nb_model.specs.declared.kind.Kind.{Kind}
use Rattle.nb_model.specs.declared.kind.Kind.TheVariants as kind
use Rattle.nb_model.specs.declared.cell.Cell.{Cell}
use Rattle.nb_model.specs.declared.notebook.Notebook.{Notebook}
use Rattle.nb_model.specs.Planned.{code, joined_text}
use Rattle.report_text.specs.Rows.{rows, ended, text_of_rows}
use Rattle.report_text.specs.Script.{Part, head_row, marker, row_front, script_rows, part_of, parts_of, script}
use Rattle.report_text.specs.Reading.{CanHold, CanHoldAll, IsScriptOf, IsNoScript, IsReadOf, row_string, cells_read, notebook_read}
use Rattle.report_text.proofs.RowLemmas.{is_flat, rows-flat, rows-back}
use Rattle.report_text.proofs.Steps.{all_rows, own_rows, marker_same, hold_rest, own_none_code, own_none_prose}

-- ---- one reading

front_same : (k : Kind) (r s : List ℕ) → row_front k ++ r ≡ row_front k ++ s → r ≡ s
front_same kind.Raw r s e = cc
front_same kind.Markdown r s e = cc
front_same kind.Code r s e = e

-- parts don't begin as a source that has rows
not_parts : (k : Kind) (r : List ℕ) (own : List (List ℕ)) (ps qs : List Part) → CanHold k (r ∷ own) → all_rows ps ≡ own_rows k (r ∷ own) ++ all_rows qs → ⊥
not_parts k r own [] qs is e = cc
not_parts kind.Raw r own (p ∷ ps) qs is e =
    let none : r ∷ own ≡ [] = own_none_prose kind.Raw (r ∷ own) qs (marker p.kind ∷ (own_rows p.kind p.rows ++ all_rows ps)) refl e in cc
not_parts kind.Markdown r own (p ∷ ps) qs is e =
    let none : r ∷ own ≡ [] = own_none_prose kind.Markdown (r ∷ own) qs (marker p.kind ∷ (own_rows p.kind p.rows ++ all_rows ps)) refl e in cc
not_parts kind.Code r own (p ∷ ps) qs is e =
    let none : r ∷ own ≡ [] = own_none_code (r ∷ own) qs p.kind (own_rows p.kind p.rows ++ all_rows ps) e is in cc

ends_same : (k : Kind) (own more : List (List ℕ)) (ps qs : List Part) → CanHold k own → CanHold k more
    → own_rows k own ++ all_rows ps ≡ own_rows k more ++ all_rows qs → (all_rows ps ≡ all_rows qs → ps ≡ qs) → (own ≡ more) × (ps ≡ qs)
ends_same k [] [] ps qs is too e parts = (refl, parts e)
ends_same k [] (s ∷ more) ps qs is too e parts = absurd (not_parts k s more ps qs too e)
ends_same k (r ∷ own) [] ps qs is too e parts = absurd (not_parts k r own qs ps is (sym e))
ends_same k (r ∷ own) (s ∷ more) ps qs is too e parts =
    let rest = ends_same k own more ps qs (hold_rest k r own is) (hold_rest k s more too) (cc) parts in
    let first : r ≡ s = front_same k r s (cc) in
    (ap (λ x. x ∷ own) first ∙ ap (λ x. s ∷ x) rest.0, rest.1)

parts_same : (ps qs : List Part) → CanHoldAll ps → CanHoldAll qs → all_rows ps ≡ all_rows qs → ps ≡ qs
parts_same [] [] is too e = refl
parts_same [] (q ∷ qs) is too e = cc
parts_same (p ∷ ps) [] is too e = cc
parts_same (p ∷ ps) (q ∷ qs) is too e =
    let same : p.kind ≡ q.kind = marker_same p.kind q.kind (cc) in
    let tails : own_rows p.kind p.rows ++ all_rows ps ≡ own_rows q.kind q.rows ++ all_rows qs = cc in
    let rest = ends_same p.kind p.rows q.rows ps qs is.0 (subst (λ k. CanHold k q.rows) (sym same) too.0)
    (tails ∙ ap (λ k. own_rows k q.rows ++ all_rows qs) (sym same)) (parts_same ps qs is.1 too.1) in
    let first : p ≡ q = ap (λ k. record { kind = k; rows = p.rows }) same ∙ ap (λ rs. record { kind = q.kind; rows = rs }) rest.0 in
    ap (λ x. x ∷ ps) first ∙ ap (λ x. q ∷ x) rest.1

pub one_script : (rs : List (List ℕ)) (ps qs : List Part) → IsScriptOf rs ps → IsScriptOf rs qs → ps ≡ qs
one_script rs ps qs is too = parts_same ps qs is.held too.held (tail (all_rows ps) (all_rows qs) (sym is.rows ∙ too.rows))
  where
    tail : (x y : List (List ℕ)) → head_row ∷ x ≡ head_row ∷ y → x ≡ y
    tail x y e = cc

-- ---- the rows of a script

flat_fronted : (k : Kind) (own : List (List ℕ)) → AllByRecursion (λ r. is_flat r ≡ true) own → AllByRecursion (λ r. is_flat r ≡ true) (own_rows k own)
flat_fronted k [] flat = tt
flat_fronted kind.Raw (r ∷ own) flat = (flat.0, flat_fronted kind.Raw own flat.1)
flat_fronted kind.Markdown (r ∷ own) flat = (flat.0, flat_fronted kind.Markdown own flat.1)
flat_fronted kind.Code (r ∷ own) flat = (flat.0, flat_fronted kind.Code own flat.1)

flat_marker : (k : Kind) → is_flat (marker k) ≡ true
flat_marker kind.Raw = refl
flat_marker kind.Markdown = refl
flat_marker kind.Code = refl

flat_append : (rs ss : List (List ℕ)) → AllByRecursion (λ r. is_flat r ≡ true) rs → AllByRecursion (λ r. is_flat r ≡ true) ss
    → AllByRecursion (λ r. is_flat r ≡ true) (rs ++ ss)
flat_append [] ss one other = other
flat_append (r ∷ rs) ss one other = (one.0, flat_append rs ss one.1 other)

flat_cells : (cs : List Cell) → AllByRecursion (λ r. is_flat r ≡ true) (all_rows (map part_of cs))
flat_cells [] = tt
flat_cells (c ∷ cs) =
    (refl, (flat_marker c.kind, flat_append (own_rows c.kind (rows (code c))) (all_rows (map part_of cs)) (flat_fronted c.kind (rows (code c)) (rows-flat (code c))) (flat_cells cs)))

script_rows_back : (n : Notebook) → rows (script n) ≡ script_rows (parts_of n)
script_rows_back n = rows-back (script_rows (parts_of n)) (refl, flat_cells n.cells)

pub script_is : (n : Notebook) → CanHoldAll (parts_of n) → IsScriptOf (rows (script n)) (parts_of n)
script_is n can = record { rows = script_rows_back n; held = can }

-- ---- the notebook that is read

texts_of_strings : (rs : List (List ℕ)) → flat_map text_of (map row_string rs) ≡ text_of_rows rs
texts_of_strings [] = refl
texts_of_strings (r ∷ rs) =
    ap (λ l. unwrap_or (string_layer l) [] ++ flat_map text_of (map row_string rs)) (open_Str (ended r)) ∙ ap (λ x. ended r ++ x) (texts_of_strings rs)

code_of_strings : (xs : List Json) → joined_text (json.Arr xs) ≡ flat_map text_of xs
code_of_strings xs = ap (λ l. unwrap_or (string_layer l) [] ++ flat_map text_of (items_layer l)) (open_Arr xs)

cells_back : (i : ℕ) (cs : List Cell) → map part_of (cells_read i (map part_of cs)) ≡ map part_of cs
cells_back i [] = refl
cells_back i (c ∷ cs) =
    ap (λ rs. record { kind = c.kind; rows = rs } ∷ map part_of (cells_read (i + 1) (map part_of cs)))
    (ap rows (code_of_strings (map row_string (rows (code c))) ∙ texts_of_strings (rows (code c))) ∙ rows-back (rows (code c)) (rows-flat (code c)))
    ∙ ap (λ ps. part_of c ∷ ps) (cells_back (i + 1) cs)

pub reads_back : (n m : Notebook) → CanHoldAll (parts_of n) → IsReadOf (script n) m → parts_of m ≡ parts_of n
reads_back n m can is =
    ap parts_of (is.same ∙ ap notebook_read (one_script (rows (script n)) is.parts (parts_of n) is.script (script_is n can)))
    ∙ cells_back 0 n.cells

pub accepted : (n : Notebook) (at : ℕ) → CanHoldAll (parts_of n) → IsUtf8 (script n) → IsNoScript (script n) at → ⊥
accepted n at can utf8 wrong =
    elim wrong [ inl not_utf8 ↦ not_utf8.0 utf8 | inr refused ↦ refused.1.no_script (parts_of n, script_is n can) ]
