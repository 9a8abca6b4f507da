-- A notebook stays valid when the pairs of each object are sorted by their keys.
use Rattle.std.proofs.Common.{◌≡◌, ℕ, ◌||◌, List, [], ◌∷◌, map, Some, None, refl, sym, ap, ap₂, ◌∙◌, codes, subst, ◌≤◌}
use Rattle.std.specs.Prelude.{is_some, unwrap_or, option_map, option_and_then}
use Rattle.std.specs.Str.{bytes_eq}
use Rattle.jtext.specs.declared.json.Json.{Json}
use Rattle.jtext.specs.Find.{field}
use Rattle.jtext.specs.Keyed.{Keyed, AllKeyed}
use Rattle.jtext.specs.Grammar.{Spells}
use Rattle.jtext.specs.Indent.{print}
use Rattle.jtext.specs.Sorting.{sort_tree}
use Rattle.jtext.specs.Sound.{Sound}
use Rattle.jtext.specs.Look.{is_object, string, is_string, there_and, is_strings, is_whole_text}
use Rattle.jtext.proofs.IndentedSpells.{indented_text}
use Rattle.jtext.proofs.Only.{one_tree}
use Rattle.nb_model.specs.Keys.{is_text, is_number}
use Rattle.jtext.specs.Bundle.{is_multiline, is_json_type, is_bundle}
use Rattle.nb_model.specs.Values.{is_count, is_id_text}
use Rattle.nb_model.specs.Valid as valid
use Rattle.nb_model.specs.Valid.{Valid}
use Rattle.nb_model.proofs.PreparedLaws.{and_eq, no_repeat, ids_are, or_eq}
use Rattle.jtext.proofs.Trees.{first_keyed}
use Rattle.jtext.proofs.SpelledKeyed.{spells_keyed}
use Rattle.nb_model.specs.Schema.{notebook_keys, prose_cell_keys, code_cell_keys, stream_required, display_required, result_required, error_required, output_keys}
use Rattle.nb_model.proofs.SortedTrees.{Stays, object_sorted, list_sorted, string_sorted, number_sorted, null_sorted, field_sorted, has-stays, may_have-stays, has_only-stays, items-stay, items_of_sorted, values-stay, depth_stays}

-- ---- values

string-stays : Stays is_string
string-stays t k = ap is_some (string_sorted t)

text-stays : (text : List ℕ) → Stays (is_text text)
text-stays text t k = ap (there_and (λ s. bytes_eq s text)) (string_sorted t)

number-stays : (text : List ℕ) → Stays (is_number text)
number-stays text t k = ap (there_and (λ s. bytes_eq s text)) (number_sorted t)

object-stays : Stays is_object
object-stays t k = object_sorted t

multiline-stays : Stays is_multiline
multiline-stays t k = or_eq (string-stays t k) (and_eq (list_sorted t) (items-stay is_string string-stays t k))

strings-stay : Stays is_strings
strings-stay t k = and_eq (list_sorted t) (items-stay is_string string-stays t k)

count-stays : Stays is_count
count-stays t k = or_eq (null_sorted t) (ap (there_and is_whole_text) (number_sorted t))

bundle-stays : Stays is_bundle
bundle-stays t k = and_eq (object_sorted t) (values-stay (λ key v. is_json_type key || is_multiline v) (λ key v h. ap (λ b. is_json_type key || b) (multiline-stays v h)) t k)

-- ---- outputs

stream-stays : Stays valid.is_stream
stream-stays t k =
    and_eq (and_eq (and_eq (has-stays (codes "output_type") (is_text (codes "stream")) (text-stays (codes "stream")) t k) (has_only-stays (output_keys stream_required) t k))
    (has-stays (codes "name") is_string string-stays t k)) (has-stays (codes "text") is_multiline multiline-stays t k)

display-stays : Stays valid.is_display
display-stays t k =
    and_eq (and_eq (and_eq (has-stays (codes "output_type") (is_text (codes "display_data")) (text-stays (codes "display_data")) t k) (has_only-stays (output_keys display_required) t k))
    (has-stays (codes "data") is_bundle bundle-stays t k)) (has-stays (codes "metadata") is_object object-stays t k)

result-stays : Stays valid.is_result
result-stays t k =
    and_eq (and_eq (and_eq (and_eq (has-stays (codes "output_type") (is_text (codes "execute_result")) (text-stays (codes "execute_result")) t k)
    (has_only-stays (output_keys result_required) t k)) (has-stays (codes "data") is_bundle bundle-stays t k))
    (has-stays (codes "metadata") is_object object-stays t k)) (has-stays (codes "execution_count") is_count count-stays t k)

error-stays : Stays valid.is_error
error-stays t k =
    and_eq (and_eq (and_eq (and_eq (has-stays (codes "output_type") (is_text (codes "error")) (text-stays (codes "error")) t k)
    (has_only-stays (output_keys error_required) t k)) (has-stays (codes "ename") is_string string-stays t k))
    (has-stays (codes "evalue") is_string string-stays t k)) (has-stays (codes "traceback") is_strings strings-stay t k)

output-stays : Stays valid.is_output
output-stays t k = and_eq (object_sorted t) (or_eq (or_eq (or_eq (stream-stays t k) (display-stays t k)) (result-stays t k)) (error-stays t k))

outputs-stay : Stays valid.are_outputs
outputs-stay t k = and_eq (list_sorted t) (items-stay valid.is_output output-stays t k)

-- ---- cells

id-stays : Stays valid.is_id
id-stays t k = ap (there_and is_id_text) (string_sorted t)

cell_metadata-stays : Stays valid.is_cell_metadata
cell_metadata-stays t k = and_eq (object_sorted t) (may_have-stays (codes "tags") is_strings strings-stay t k)

common-stays : Stays valid.has_common
common-stays t k =
    and_eq (and_eq (has-stays (codes "id") valid.is_id id-stays t k) (has-stays (codes "metadata") valid.is_cell_metadata cell_metadata-stays t k)) (has-stays (codes "source") is_multiline multiline-stays t k)

attachments-stay : Stays valid.are_attachments
attachments-stay t k = and_eq (object_sorted t) (values-stay (λ key v. is_bundle v) (λ key. bundle-stays) t k)

prose_cell-stays : Stays valid.is_prose_cell
prose_cell-stays t k =
    and_eq (and_eq (and_eq (has-stays (codes "cell_type") (λ v. is_text (codes "raw") v || is_text (codes "markdown") v) (λ v h. or_eq (text-stays (codes "raw") v h) (text-stays (codes "markdown") v h)) t k)
    (has_only-stays prose_cell_keys t k)) (common-stays t k)) (may_have-stays (codes "attachments") valid.are_attachments attachments-stay t k)

code_cell-stays : Stays valid.is_code_cell
code_cell-stays t k =
    and_eq (and_eq (and_eq (and_eq (has-stays (codes "cell_type") (is_text (codes "code")) (text-stays (codes "code")) t k)
    (has_only-stays code_cell_keys t k)) (common-stays t k))
    (has-stays (codes "outputs") valid.are_outputs outputs-stay t k)) (has-stays (codes "execution_count") is_count count-stays t k)

cell-stays : Stays valid.is_cell
cell-stays t k = and_eq (object_sorted t) (or_eq (prose_cell-stays t k) (code_cell-stays t k))

-- ---- ids

id_sorted : (c : Json) → Keyed c → valid.id_of (sort_tree c) ≡ valid.id_of c
id_sorted c k =
    ap (λ o. unwrap_or (option_and_then string o) []) (field_sorted (codes "id") c k)
    ∙ (elim (field c (codes "id")) as (λ o. unwrap_or (option_and_then string (option_map sort_tree o)) [] ≡ unwrap_or (option_and_then string o) []) [ None ↦ refl | Some v ↦ ap (λ s. unwrap_or s []) (string_sorted v) ])

ids_sorted : (xs : List Json) → AllKeyed xs → map valid.id_of (map sort_tree xs) ≡ map valid.id_of xs
ids_sorted [] k = refl
ids_sorted (x ∷ xs) k = let h = first_keyed x xs k in ap₂ (λ i is. i ∷ is) (id_sorted x h.0) (ids_sorted xs h.1)

differ_sorted : (xs : List Json) → AllKeyed xs → valid.ids_differ (map sort_tree xs) ≡ valid.ids_differ xs
differ_sorted xs k = ids_are (map sort_tree xs) ∙ ap no_repeat (ids_sorted xs k) ∙ sym (ids_are xs)

cells-stay : Stays valid.are_cells
cells-stay t k = and_eq (and_eq (list_sorted t) (items-stay valid.is_cell cell-stays t k)) (items_of_sorted valid.ids_differ differ_sorted t k)

-- ---- the notebook

kernelspec-stays : Stays valid.is_kernelspec
kernelspec-stays t k = and_eq (and_eq (object_sorted t) (has-stays (codes "name") is_string string-stays t k)) (has-stays (codes "display_name") is_string string-stays t k)

language_info-stays : Stays valid.is_language_info
language_info-stays t k = and_eq (object_sorted t) (has-stays (codes "name") is_string string-stays t k)

metadata-stays : Stays valid.is_metadata
metadata-stays t k =
    and_eq (and_eq (object_sorted t) (may_have-stays (codes "kernelspec") valid.is_kernelspec kernelspec-stays t k)) (may_have-stays (codes "language_info") valid.is_language_info language_info-stays t k)

pub notebook-stays : Stays valid.is_notebook
notebook-stays t k =
    and_eq (and_eq (and_eq (and_eq (and_eq (object_sorted t) (has_only-stays notebook_keys t k))
    (has-stays (codes "nbformat") (is_number (codes "4")) (number-stays (codes "4")) t k)) (has-stays (codes "nbformat_minor") (is_number (codes "5")) (number-stays (codes "5")) t k))
    (has-stays (codes "metadata") valid.is_metadata metadata-stays t k)) (has-stays (codes "cells") valid.are_cells cells-stay t k)

pub read_valid : (t u : Json) → Sound t → Keyed t → Valid t → Spells u (print t) → Valid u × Keyed u
read_valid t u s k v is =
    let same : sort_tree t ≡ u = one_tree (sort_tree t) u (print t) (indented_text t s k) is in
    let again : Valid (sort_tree t) = record { notebook = notebook-stays t k ∙ v.notebook; within = subst (λ n. n ≤ 128) (sym (depth_stays t k)) v.within } in
    (subst Valid same again, spells_keyed u (print t) is)

-- what is read of the indented text of a tree, is the tree with its pairs sorted
pub read_sorted : (t u : Json) → Sound t → Keyed t → Spells u (print t) → u ≡ sort_tree t
read_sorted t u s k is = sym (one_tree (sort_tree t) u (print t) (indented_text t s k) is)
