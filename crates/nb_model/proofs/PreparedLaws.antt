-- A prepared notebook is valid where the notebook is.
use Rattle.std.proofs.Common.{◌≡◌, ℕ, Bool, true, false, cond, not, ◌&&◌, ◌||◌, List, [], ◌∷◌, ◌++◌, map, Option, Some, None, refl, sym, ap, ap₂, ◌∙◌, inl, inr, rules}
use Rattle.std.specs.Prelude.{codes, unwrap_or, option_and_then}
use Rattle.std.specs.List.{list_any, list_all}
use Rattle.std.specs.Str.{bytes_eq}
use Rattle.std.proofs.lemmas.Bool.{cases_Bool, cond-true, cond-false, and_parts}
use Rattle.std.proofs.lemmas.Slice.Eq.{bytes_eq-Decides}
use Rattle.std.proofs.Math.Bool.{or-false}
use Rattle.jtext.specs.declared.json.Json.{Json, out-Json, the_lemmas}
use Rattle.jtext.specs.declared.json.Json.TheOpen.{Json-F}
use Rattle.jtext.specs.declared.json.Json.TheVariants as json
use Rattle.jtext.specs.Find.{find, field, fields}
use Rattle.jtext.specs.Look.{is_object, is_list, items, string, number, number_layer, is_null, is_null_layer, there_and, absent_or, is_whole_text, is_strings}
use Rattle.nb_model.specs.declared.kind.Kind.{Kind}
use Rattle.nb_model.specs.declared.kind.Kind.TheVariants as kind
use Rattle.nb_model.specs.declared.cell.Cell.{Cell}
use Rattle.nb_model.specs.declared.notebook.Notebook.{Notebook}
use Rattle.nb_model.specs.Keys.{is_text, is_number, has, may_have, has_only}
use Rattle.jtext.specs.Bundle.{is_multiline}
use Rattle.nb_model.specs.Schema.{notebook_keys, prose_cell_keys, code_cell_keys}
use Rattle.nb_model.specs.Values.{is_count, is_id_text}
use Rattle.nb_model.specs.Valid as valid
use Rattle.nb_model.specs.Reading.{value_at, kind_named, cell_of, notebook_of}
use Rattle.nb_model.specs.Tree.{optional_pair, count_tree, cell_tree, notebook_tree}
use Rattle.jtext.specs.Edit.{set_pair, set_field}
use Rattle.nb_model.specs.Kind.{is_code}
use Rattle.nb_model.specs.Prepared.{pending_mark, prepared_cell, prepared_notebook}
use Rattle.nb_model.proofs.TreeLaws.{pairs_with}
use Rattle.nb_model.proofs.CellValues.{top_pairs}

pub and_eq : {a b x y : Bool} → a ≡ x → b ≡ y → (a && b) ≡ (x && y)
and_eq p q = ap₂ (λ u v. u && v) p q

pub or_eq : {a b x y : Bool} → a ≡ x → b ≡ y → (a || b) ≡ (x || y)
or_eq p q = ap₂ (λ u v. u || v) p q

-- ---- tests of a built object

pub fields_Obj : (ps : List (List ℕ × Json)) → fields (json.Obj ps) ≡ ps
fields_Obj ps = search (rules, the_lemmas)

pub object_Obj : (ps : List (List ℕ × Json)) → is_object (json.Obj ps) ≡ true
object_Obj ps = search (rules, the_lemmas)

pub string_Str : (s : List ℕ) → string (json.Str s) ≡ Some s
string_Str s = search (rules, the_lemmas)

pub number_Num : (s : List ℕ) → number (json.Num s) ≡ Some s
number_Num s = search (rules, the_lemmas)

null_Num : (s : List ℕ) → is_null (json.Num s) ≡ false
null_Num s = search (rules, the_lemmas)

null_Null : is_null json.Null ≡ true
null_Null = search (rules, the_lemmas)

pub list_Arr : (xs : List Json) → is_list (json.Arr xs) ≡ true
list_Arr xs = search (rules, the_lemmas)

pub items_Arr : (xs : List Json) → items (json.Arr xs) ≡ xs
items_Arr xs = search (rules, the_lemmas)

has_at : (key : List ℕ) (test : Json → Bool) (qs : List (List ℕ × Json)) (v : Json) → find key qs ≡ Some v → has key test (json.Obj qs) ≡ test v
has_at key test qs v e = ap (λ ps. there_and test (find key ps)) (fields_Obj qs) ∙ ap (there_and test) e

may_at : (key : List ℕ) (test : Json → Bool) (qs : List (List ℕ × Json)) (o : Option Json) → find key qs ≡ o → may_have key test (json.Obj qs) ≡ absent_or test o
may_at key test qs o e = ap (λ ps. absent_or test (find key ps)) (fields_Obj qs) ∙ ap (absent_or test) e

pub only_at : (keys : List (List ℕ)) (qs : List (List ℕ × Json)) → list_all (λ p. list_any (λ key. bytes_eq p.0 key) keys) qs ≡ true → has_only keys (json.Obj qs) ≡ true
only_at keys qs e = ap (list_all (λ p. list_any (λ key. bytes_eq p.0 key) keys)) (fields_Obj qs) ∙ e

text_is : (text s : List ℕ) → is_text text (json.Str s) ≡ bytes_eq s text
text_is text s = ap (there_and (λ x. bytes_eq x text)) (string_Str s)

number_is : (text s : List ℕ) → is_number text (json.Num s) ≡ bytes_eq s text
number_is text s = ap (there_and (λ x. bytes_eq x text)) (number_Num s)

-- ---- what a cell needs

abbrev pub count_fits : Option (List ℕ) → Bool
count_fits o = absent_or is_whole_text o

abbrev pub common_fits : Cell → Bool
common_fits c = is_id_text c.id && valid.is_cell_metadata c.metadata && is_multiline c.source

abbrev pub kind_fits : Kind → Cell → Bool
kind_fits kind.Raw c = common_fits c && absent_or valid.are_attachments c.attachments
kind_fits kind.Markdown c = common_fits c && absent_or valid.are_attachments c.attachments
kind_fits kind.Code c = common_fits c && list_all valid.is_output c.outputs && count_fits c.count

abbrev pub cell_fits : Cell → Bool
cell_fits c = kind_fits c.kind c

pub count_is : (o : Option (List ℕ)) → is_count (count_tree o) ≡ count_fits o
count_is None = ap (λ b. b || there_and is_whole_text (number json.Null)) null_Null
count_is (Some s) = ap₂ (λ b o. b || there_and is_whole_text o) (null_Num s) (number_Num s)

outputs_is : (xs : List Json) → valid.are_outputs (json.Arr xs) ≡ list_all valid.is_output xs
outputs_is xs = ap₂ (λ b ys. b && list_all valid.is_output ys) (list_Arr xs) (items_Arr xs)

id_is : (s : List ℕ) → valid.is_id (json.Str s) ≡ is_id_text s
id_is s = ap (there_and is_id_text) (string_Str s)

abbrev pub is_prose_name : Json → Bool
is_prose_name v = is_text (codes "raw") v || is_text (codes "markdown") v

prose_name : (s : List ℕ) → is_prose_name (json.Str s) ≡ (bytes_eq s (codes "raw") || bytes_eq s (codes "markdown"))
prose_name s = ap₂ (λ a b. a || b) (text_is (codes "raw") s) (text_is (codes "markdown") s)

common_at : (qs : List (List ℕ × Json)) (c : Cell) → find (codes "id") qs ≡ Some (json.Str c.id) → find (codes "metadata") qs ≡ Some c.metadata → find (codes "source") qs ≡ Some c.source
    → valid.has_common (json.Obj qs) ≡ common_fits c
common_at qs c i m s =
    and_eq (and_eq (has_at (codes "id") valid.is_id qs (json.Str c.id) i ∙ id_is c.id) (has_at (codes "metadata") valid.is_cell_metadata qs c.metadata m)) (has_at (codes "source") is_multiline qs c.source s)

code_tree : (c : Cell) → valid.is_cell (json.Obj (pairs_with kind.Code c)) ≡ kind_fits kind.Code c
code_tree c =
    let qs = pairs_with kind.Code c in
    let no_prose : valid.is_prose_cell (json.Obj qs) ≡ false =
    and_eq (and_eq (and_eq (has_at (codes "cell_type") is_prose_name qs (json.Str (codes "code")) refl ∙ prose_name (codes "code")) refl) refl) refl in
    let is_code_cell : valid.is_code_cell (json.Obj qs) ≡ kind_fits kind.Code c =
    and_eq (and_eq (and_eq (and_eq (has_at (codes "cell_type") (is_text (codes "code")) qs (json.Str (codes "code")) refl ∙ text_is (codes "code") (codes "code")) (only_at code_cell_keys qs refl))
    (common_at qs c refl refl refl)) (has_at (codes "outputs") valid.are_outputs qs (json.Arr c.outputs) refl ∙ outputs_is c.outputs))
    (has_at (codes "execution_count") is_count qs (count_tree c.count) refl ∙ count_is c.count) in
    and_eq (object_Obj qs) (ap₂ (λ a b. a || b) no_prose is_code_cell)

-- a cell of text, with its pairs as they are for its attachments
abbrev prose_pairs : List ℕ → Cell → Option Json → List (List ℕ × Json)
prose_pairs name c o = optional_pair (codes "attachments") o ++ ((codes "cell_type", json.Str name) ∷ (codes "id", json.Str c.id) ∷ (codes "metadata", c.metadata) ∷ (codes "source", c.source) ∷ [])

prose_tree : (name : List ℕ) (c : Cell) (o : Option Json) → (bytes_eq name (codes "raw") || bytes_eq name (codes "markdown")) ≡ true → bytes_eq name (codes "code") ≡ false
    → valid.is_cell (json.Obj (prose_pairs name c o)) ≡ (common_fits c && absent_or valid.are_attachments o)
prose_tree name c o named other =
    let qs = prose_pairs name c o in
    let type : find (codes "cell_type") qs ≡ Some (json.Str name) =
    elim o as (λ q. find (codes "cell_type") (prose_pairs name c q) ≡ Some (json.Str name)) [ None ↦ refl | Some v ↦ refl ] in
    let known : list_all (λ p. list_any (λ key. bytes_eq p.0 key) prose_cell_keys) qs ≡ true =
    elim o as (λ q. list_all (λ p. list_any (λ key. bytes_eq p.0 key) prose_cell_keys) (prose_pairs name c q) ≡ true) [ None ↦ refl | Some v ↦ refl ] in
    let attached : find (codes "attachments") qs ≡ o =
    elim o as (λ q. find (codes "attachments") (prose_pairs name c q) ≡ q) [ None ↦ refl | Some v ↦ refl ] in
    let id : find (codes "id") qs ≡ Some (json.Str c.id) = elim o as (λ q. find (codes "id") (prose_pairs name c q) ≡ Some (json.Str c.id)) [ None ↦ refl | Some v ↦ refl ] in
    let metadata : find (codes "metadata") qs ≡ Some c.metadata = elim o as (λ q. find (codes "metadata") (prose_pairs name c q) ≡ Some c.metadata) [ None ↦ refl | Some v ↦ refl ] in
    let source : find (codes "source") qs ≡ Some c.source = elim o as (λ q. find (codes "source") (prose_pairs name c q) ≡ Some c.source) [ None ↦ refl | Some v ↦ refl ] in
    let is_prose_cell : valid.is_prose_cell (json.Obj qs) ≡ (common_fits c && absent_or valid.are_attachments o) =
    and_eq (and_eq (and_eq (has_at (codes "cell_type") is_prose_name qs (json.Str name) type ∙ prose_name name ∙ named) (only_at prose_cell_keys qs known)) (common_at qs c id metadata source))
    (may_at (codes "attachments") valid.are_attachments qs o attached) in
    let no_code : valid.is_code_cell (json.Obj qs) ≡ false =
    and_eq (and_eq (and_eq (and_eq (has_at (codes "cell_type") (is_text (codes "code")) qs (json.Str name) type ∙ text_is (codes "code") name ∙ other) refl) refl) refl) refl in
    and_eq (object_Obj qs) (ap₂ (λ a b. a || b) is_prose_cell no_code ∙ or-false (common_fits c && absent_or valid.are_attachments o))

-- the tree of a cell is one exactly where its parts fit
pub cell_tree-fits : (c : Cell) → valid.is_cell (cell_tree c) ≡ cell_fits c
cell_tree-fits c =
    elim c.kind as (λ k. valid.is_cell (json.Obj (pairs_with k c)) ≡ kind_fits k c) [
      | kind.Raw ↦ prose_tree (codes "raw") c c.attachments refl refl
      | kind.Markdown ↦ prose_tree (codes "markdown") c c.attachments refl refl
      | kind.Code ↦ code_tree c
    ]

-- ---- ids

abbrev pub no_repeat : List (List ℕ) → Bool
no_repeat [] = true
no_repeat (i ∷ is) = not (list_any (bytes_eq i) is) && no_repeat is

any-map : {X : Type 0} (test : List ℕ → Bool) (f : X → List ℕ) (xs : List X) → list_any test (map f xs) ≡ list_any (λ x. test (f x)) xs
any-map test f [] = refl
any-map test f (x ∷ xs) = ap (λ b. test (f x) || b) (any-map test f xs)

pub ids_are : (xs : List Json) → valid.ids_differ xs ≡ no_repeat (map valid.id_of xs)
ids_are [] = refl
ids_are (x ∷ xs) = ap₂ (λ a b. not a && b) (sym (any-map (bytes_eq (valid.id_of x)) valid.id_of xs)) (ids_are xs)

pub tree_id : (c : Cell) → valid.id_of (cell_tree c) ≡ c.id
tree_id c =
    ap (λ ps. unwrap_or (option_and_then string (find (codes "id") ps)) []) (fields_Obj (pairs_with c.kind c))
    ∙ ap (λ o. unwrap_or (option_and_then string o) []) (found c.kind c.attachments)
    ∙ ap (λ o. unwrap_or o []) (string_Str c.id)
  where
    found : (k : Kind) (o : Option Json) → find (codes "id") (pairs_with k c) ≡ Some (json.Str c.id)
    found kind.Raw o = elim c.attachments as (λ q. find (codes "id") (prose_pairs (codes "raw") c q) ≡ Some (json.Str c.id)) [ None ↦ refl | Some v ↦ refl ]
    found kind.Markdown o = elim c.attachments as (λ q. find (codes "id") (prose_pairs (codes "markdown") c q) ≡ Some (json.Str c.id)) [ None ↦ refl | Some v ↦ refl ]
    found kind.Code o = refl

pub tree_ids : (cs : List Cell) → map valid.id_of (map cell_tree cs) ≡ map (λ c. c.id) cs
tree_ids [] = refl
tree_ids (c ∷ cs) = ap₂ (λ i is. i ∷ is) (tree_id c) (tree_ids cs)

-- ---- the notebook

abbrev pub notebook_fits : Notebook → Bool
notebook_fits n = valid.is_metadata n.metadata && (list_all cell_fits n.cells && no_repeat (map (λ c. c.id) n.cells))

trees_fit : (cs : List Cell) → list_all valid.is_cell (map cell_tree cs) ≡ list_all cell_fits cs
trees_fit [] = refl
trees_fit (c ∷ cs) = and_eq (cell_tree-fits c) (trees_fit cs)

are_cells_is : (cs : List Cell) → valid.are_cells (json.Arr (map cell_tree cs)) ≡ (list_all cell_fits cs && no_repeat (map (λ c. c.id) cs))
are_cells_is cs =
    ap₂ (λ b xs. b && list_all valid.is_cell xs && valid.ids_differ xs) (list_Arr (map cell_tree cs)) (items_Arr (map cell_tree cs))
    ∙ and_eq (trees_fit cs) (ids_are (map cell_tree cs) ∙ ap no_repeat (tree_ids cs))

pub notebook_tree-fits : (n : Notebook) → valid.is_notebook (notebook_tree n) ≡ notebook_fits n
notebook_tree-fits n =
    let qs = top_pairs n in
    and_eq (and_eq (and_eq (and_eq (and_eq (object_Obj qs) (only_at notebook_keys qs refl))
    (has_at (codes "nbformat") (is_number (codes "4")) qs (json.Num (codes "4")) refl ∙ number_is (codes "4") (codes "4")))
    (has_at (codes "nbformat_minor") (is_number (codes "5")) qs (json.Num (codes "5")) refl ∙ number_is (codes "5") (codes "5")))
    (has_at (codes "metadata") valid.is_metadata qs n.metadata refl))
    (has_at (codes "cells") valid.are_cells qs (json.Arr (map cell_tree n.cells)) refl ∙ are_cells_is n.cells)

-- ---- marks

-- another key is found as before
find-set_other : (k key : List ℕ) (v : Json) (ps : List (List ℕ × Json)) → bytes_eq key k ≡ false → find k (set_pair key v ps) ≡ find k ps
find-set_other k key v [] ne = cond-false (bytes_eq key k) (Some v) None ne
find-set_other k key v (p ∷ ps) ne =
    elim (cases_Bool (bytes_eq p.0 key)) [
      | inl t ↦
          let same : bytes_eq p.0 k ≡ false = ap (λ x. bytes_eq x k) ((bytes_eq-Decides p.0 key).0 t) ∙ ne in
          ap (find k) (cond-true (bytes_eq p.0 key) ((p.0, v) ∷ ps) (p ∷ set_pair key v ps) t) ∙ cond-false (bytes_eq p.0 k) (Some v) (find k ps) same
          ∙ sym (cond-false (bytes_eq p.0 k) (Some p.1) (find k ps) same)
      | inr f ↦
          ap (find k) (cond-false (bytes_eq p.0 key) ((p.0, v) ∷ ps) (p ∷ set_pair key v ps) f) ∙ ap (λ o. cond (bytes_eq p.0 k) (Some p.1) o) (find-set_other k key v ps ne)
    ]

pub field-set_other : (k key : List ℕ) (v t : Json) → bytes_eq key k ≡ false → field (set_field key v t) k ≡ field t k
field-set_other k key v t ne = ap (find k) (fields_Obj (set_pair key v (fields t))) ∙ find-set_other k key v (fields t) ne

pub cell_metadata_kept : (key : List ℕ) (v m : Json) → bytes_eq key (codes "tags") ≡ false → valid.is_cell_metadata m ≡ true → valid.is_cell_metadata (set_field key v m) ≡ true
cell_metadata_kept key v m other e =
    let h = and_parts (is_object m) (may_have (codes "tags") is_strings m) e in
    and_eq (object_Obj (set_pair key v (fields m))) (ap (absent_or is_strings) (field-set_other (codes "tags") key v m other) ∙ h.1)

pub metadata_kept_at : (key : List ℕ) (v m : Json) → bytes_eq key (codes "kernelspec") ≡ false → bytes_eq key (codes "language_info") ≡ false
    → valid.is_metadata m ≡ true → valid.is_metadata (set_field key v m) ≡ true
metadata_kept_at key v m kernel language e =
    let h = and_parts (is_object m && may_have (codes "kernelspec") valid.is_kernelspec m) (may_have (codes "language_info") valid.is_language_info m) e in
    let g = and_parts (is_object m) (may_have (codes "kernelspec") valid.is_kernelspec m) h.0 in
    and_eq (and_eq (object_Obj (set_pair key v (fields m))) (ap (absent_or valid.is_kernelspec) (field-set_other (codes "kernelspec") key v m kernel) ∙ g.1))
    (ap (absent_or valid.is_language_info) (field-set_other (codes "language_info") key v m language) ∙ h.1)

pub metadata_kept : (v m : Json) → valid.is_metadata m ≡ true → valid.is_metadata (set_field (codes "papermill") v m) ≡ true
metadata_kept v m e = metadata_kept_at (codes "papermill") v m refl refl e

-- ---- the prepared notebook

abbrev pub prepared_with : Kind → Cell → Cell
prepared_with k c = record (cond (is_code k) (record c { outputs = []; count = None }) c) { metadata = set_field (codes "papermill") pending_mark c.metadata }

pub common_kept : (c : Cell) (m : Json) → valid.is_cell_metadata m ≡ true → common_fits c ≡ true → (is_id_text c.id && valid.is_cell_metadata m && is_multiline c.source) ≡ true
common_kept c m is e =
    let h = and_parts (is_id_text c.id && valid.is_cell_metadata c.metadata) (is_multiline c.source) e in
    let g = and_parts (is_id_text c.id) (valid.is_cell_metadata c.metadata) h.0 in
    and_eq (and_eq g.0 is) h.1

pub metadata_of : (c : Cell) → common_fits c ≡ true → valid.is_cell_metadata c.metadata ≡ true
metadata_of c e =
    let h = and_parts (is_id_text c.id && valid.is_cell_metadata c.metadata) (is_multiline c.source) e in
    (and_parts (is_id_text c.id) (valid.is_cell_metadata c.metadata) h.0).1

kind_kept : (k : Kind) (c : Cell) → kind_fits k c ≡ true → kind_fits k (prepared_with k c) ≡ true
kind_kept kind.Raw c e =
    let h = and_parts (common_fits c) (absent_or valid.are_attachments c.attachments) e in
    and_eq (common_kept c (set_field (codes "papermill") pending_mark c.metadata) (cell_metadata_kept (codes "papermill") pending_mark c.metadata refl (metadata_of c h.0)) h.0) h.1
kind_kept kind.Markdown c e =
    let h = and_parts (common_fits c) (absent_or valid.are_attachments c.attachments) e in
    and_eq (common_kept c (set_field (codes "papermill") pending_mark c.metadata) (cell_metadata_kept (codes "papermill") pending_mark c.metadata refl (metadata_of c h.0)) h.0) h.1
kind_kept kind.Code c e =
    let h = and_parts (common_fits c && list_all valid.is_output c.outputs) (count_fits c.count) e in
    let g = and_parts (common_fits c) (list_all valid.is_output c.outputs) h.0 in
    and_eq (and_eq (common_kept c (set_field (codes "papermill") pending_mark c.metadata) (cell_metadata_kept (codes "papermill") pending_mark c.metadata refl (metadata_of c g.0)) g.0) refl) refl

-- the kind and the id stay
pub kind_stays : (c : Cell) → (prepared_cell c).kind ≡ c.kind
kind_stays c = elim (is_code c.kind) as (λ b. (cond b (record c { outputs = []; count = None }) c).kind ≡ c.kind) [ true ↦ refl | false ↦ refl ]

id_stays : (c : Cell) → (prepared_cell c).id ≡ c.id
id_stays c = elim (is_code c.kind) as (λ b. (cond b (record c { outputs = []; count = None }) c).id ≡ c.id) [ true ↦ refl | false ↦ refl ]

cell_kept : (c : Cell) → cell_fits c ≡ true → cell_fits (prepared_cell c) ≡ true
cell_kept c e = ap (λ k. kind_fits k (prepared_cell c)) (kind_stays c) ∙ kind_kept c.kind c e

cells_kept : (cs : List Cell) → list_all cell_fits cs ≡ true → list_all cell_fits (map prepared_cell cs) ≡ true
cells_kept [] e = refl
cells_kept (c ∷ cs) e = let h = and_parts (cell_fits c) (list_all cell_fits cs) e in and_eq (cell_kept c h.0) (cells_kept cs h.1)

ids_stay : (cs : List Cell) → map (λ c. c.id) (map prepared_cell cs) ≡ map (λ c. c.id) cs
ids_stay [] = refl
ids_stay (c ∷ cs) = ap₂ (λ i is. i ∷ is) (id_stays c) (ids_stay cs)

prepared_fits : (n : Notebook) → notebook_fits n ≡ true → notebook_fits (prepared_notebook n) ≡ true
prepared_fits n e =
    let h = and_parts (valid.is_metadata n.metadata) (list_all cell_fits n.cells && no_repeat (map (λ c. c.id) n.cells)) e in
    let g = and_parts (list_all cell_fits n.cells) (no_repeat (map (λ c. c.id) n.cells)) h.1 in
    and_eq (metadata_kept (set_field (codes "exception") json.Null (unwrap_or (field n.metadata (codes "papermill")) json.Null)) n.metadata h.0)
    (and_eq (cells_kept n.cells g.0) (ap no_repeat (ids_stay n.cells) ∙ g.1))

pub prepared_valid : (n : Notebook) → valid.is_notebook (notebook_tree n) ≡ true → valid.is_notebook (notebook_tree (prepared_notebook n)) ≡ true
prepared_valid n e = notebook_tree-fits (prepared_notebook n) ∙ prepared_fits n (sym (notebook_tree-fits n) ∙ e)

-- ---- the notebook that a tree is

read_count : (v : Json) → is_count v ≡ true → count_fits (number v) ≡ true
read_count v = layer (out-Json v)
  where
    layer : (l : Json-F Json) → (is_null_layer l || there_and is_whole_text (number_layer l)) ≡ true → count_fits (number_layer l) ≡ true
    layer Json-F.Null e = refl
    layer (Json-F.Bool b) e = cc
    layer (Json-F.Num s) e = e
    layer (Json-F.Str s) e = cc
    layer (Json-F.Arr xs) e = cc
    layer (Json-F.Obj ps) e = cc

read_id : (c : Json) → has (codes "id") valid.is_id c ≡ true → is_id_text (valid.id_of c) ≡ true
read_id c e =
    elim (field c (codes "id")) as (λ o. there_and valid.is_id o ≡ true → is_id_text (unwrap_or (option_and_then string o) []) ≡ true) [
      | None ↦ λ h. cc
      | Some v ↦ λ h. elim (string v) as (λ q. there_and is_id_text q ≡ true → is_id_text (unwrap_or q []) ≡ true) [ None ↦ λ g. cc | Some s ↦ λ g. g ] h
    ] e

read_value : (key : List ℕ) (test : Json → Bool) (c : Json) → has key test c ≡ true → test (value_at key c) ≡ true
read_value key test c e = elim (field c key) as (λ o. there_and test o ≡ true → test (unwrap_or o json.Null) ≡ true) [ None ↦ λ h. cc | Some v ↦ λ h. h ] e

read_common : (c : Json) → valid.has_common c ≡ true → common_fits (cell_of c) ≡ true
read_common c e =
    let h = and_parts (has (codes "id") valid.is_id c && has (codes "metadata") valid.is_cell_metadata c) (has (codes "source") is_multiline c) e in
    let g = and_parts (has (codes "id") valid.is_id c) (has (codes "metadata") valid.is_cell_metadata c) h.0 in
    and_eq (and_eq (read_id c g.0) (read_value (codes "metadata") valid.is_cell_metadata c g.1)) (read_value (codes "source") is_multiline c h.1)

text_of : (text : List ℕ) (v : Json) → is_text text v ≡ true → string v ≡ Some text
text_of text v e = elim (string v) as (λ o. there_and (λ s. bytes_eq s text) o ≡ true → o ≡ Some text) [ None ↦ λ h. cc | Some s ↦ λ h. ap Some ((bytes_eq-Decides s text).0 h) ] e

named_kind : (c : Json) (v : Json) (name : List ℕ) → field c (codes "cell_type") ≡ Some v → is_text name v ≡ true → (cell_of c).kind ≡ kind_named name
named_kind c v name f e = ap (λ o. kind_named (unwrap_or (option_and_then string o) [])) f ∙ ap (λ o. kind_named (unwrap_or o [])) (text_of name v e)

found_value : (key : List ℕ) (test : Json → Bool) (c : Json) → has key test c ≡ true → field c key ≡ Some (value_at key c)
found_value key test c e = elim (field c key) as (λ o. there_and test o ≡ true → o ≡ Some (unwrap_or o json.Null)) [ None ↦ λ h. cc | Some v ↦ λ h. refl ] e

read_code : (c : Json) → valid.is_code_cell c ≡ true → cell_fits (cell_of c) ≡ true
read_code c e =
    let K = has (codes "cell_type") (is_text (codes "code")) c in
    let N = has_only code_cell_keys c in
    let M = valid.has_common c in
    let U = has (codes "outputs") valid.are_outputs c in
    let h1 = and_parts (((K && N) && M) && U) (has (codes "execution_count") is_count c) e in
    let h2 = and_parts ((K && N) && M) U h1.0 in
    let h3 = and_parts (K && N) M h2.0 in
    let h4 = and_parts K N h3.0 in
    let outputs = read_value (codes "outputs") valid.are_outputs c h2.1 in
    let n = value_at (codes "execution_count") c in
    let count : count_fits (cell_of c).count ≡ true =
    ap (λ o. count_fits (option_and_then number o)) (found_value (codes "execution_count") is_count c h1.1) ∙ read_count n (read_value (codes "execution_count") is_count c h1.1) in
    ap (λ k. kind_fits k (cell_of c)) (named_kind c (value_at (codes "cell_type") c) (codes "code") (found_value (codes "cell_type") (is_text (codes "code")) c h4.0) (read_value (codes "cell_type") (is_text (codes "code")) c h4.0))
    ∙ and_eq (and_eq (read_common c h3.1) (and_parts (is_list (value_at (codes "outputs") c)) (list_all valid.is_output (items (value_at (codes "outputs") c))) outputs).1) count

read_prose : (c : Json) → valid.is_prose_cell c ≡ true → cell_fits (cell_of c) ≡ true
read_prose c e =
    let K = has (codes "cell_type") is_prose_name c in
    let N = has_only prose_cell_keys c in
    let M = valid.has_common c in
    let h1 = and_parts ((K && N) && M) (may_have (codes "attachments") valid.are_attachments c) e in
    let h2 = and_parts (K && N) M h1.0 in
    let h3 = and_parts K N h2.0 in
    let v = value_at (codes "cell_type") c in
    let type = found_value (codes "cell_type") is_prose_name c h3.0 in
    let name = read_value (codes "cell_type") is_prose_name c h3.0 in
    let fits : (common_fits (cell_of c) && absent_or valid.are_attachments (cell_of c).attachments) ≡ true = and_eq (read_common c h2.1) h1.1 in
    elim (cases_Bool (is_text (codes "raw") v)) [
      | inl r ↦ ap (λ k. kind_fits k (cell_of c)) (named_kind c v (codes "raw") type r) ∙ fits
      | inr nr ↦ ap (λ k. kind_fits k (cell_of c)) (named_kind c v (codes "markdown") type (ap (λ b. b || is_text (codes "markdown") v) (sym nr) ∙ name)) ∙ fits
    ]

read_cell : (c : Json) → valid.is_cell c ≡ true → cell_fits (cell_of c) ≡ true
read_cell c e =
    let h = and_parts (is_object c) (valid.is_prose_cell c || valid.is_code_cell c) e in
    elim (cases_Bool (valid.is_prose_cell c)) [
      | inl p ↦ read_prose c p
      | inr n ↦ read_code c (ap (λ b. b || valid.is_code_cell c) (sym n) ∙ h.1)
    ]

read_cells : (xs : List Json) → list_all valid.is_cell xs ≡ true → list_all cell_fits (map cell_of xs) ≡ true
read_cells [] e = refl
read_cells (x ∷ xs) e = let h = and_parts (valid.is_cell x) (list_all valid.is_cell xs) e in and_eq (read_cell x h.0) (read_cells xs h.1)

read_ids : (xs : List Json) → map valid.id_of xs ≡ map (λ c. c.id) (map cell_of xs)
read_ids [] = refl
read_ids (x ∷ xs) = ap (λ is. valid.id_of x ∷ is) (read_ids xs)

pub read_valid : (t : Json) → valid.is_notebook t ≡ true → valid.is_notebook (notebook_tree (notebook_of t)) ≡ true
read_valid t e =
    let O = is_object t in
    let N = has_only notebook_keys t in
    let V = has (codes "nbformat") (is_number (codes "4")) t in
    let W = has (codes "nbformat_minor") (is_number (codes "5")) t in
    let M = has (codes "metadata") valid.is_metadata t in
    let h1 = and_parts ((((O && N) && V) && W) && M) (has (codes "cells") valid.are_cells t) e in
    let h2 = and_parts (((O && N) && V) && W) M h1.0 in
    let v = value_at (codes "cells") t in
    let cells = and_parts (is_list v && list_all valid.is_cell (items v)) (valid.ids_differ (items v)) (read_value (codes "cells") valid.are_cells t h1.1) in
    let shaped = and_parts (is_list v) (list_all valid.is_cell (items v)) cells.0 in
    notebook_tree-fits (notebook_of t)
    ∙ and_eq (read_value (codes "metadata") valid.is_metadata t h2.1) (and_eq (read_cells (items v) shaped.1) (ap no_repeat (sym (read_ids (items v))) ∙ sym (ids_are (items v)) ∙ cells.1))
