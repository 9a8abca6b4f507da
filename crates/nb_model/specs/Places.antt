-- Where a tree fails the schema of nbformat 4.5 (which trees pass it: `Valid`): the first place in this order.
-- A value of the wrong kind is named itself. Then, within an object: what decides its kind, a missing key
-- (which names the object), the first unknown key, and the values of its keys in the order below. That there
-- is a fault exactly where a tree isn't valid, is the law `faulty_where_invalid`.
use Rattle.std.specs.Prelude.{ℕ, Bool, not, ◌||◌, if◌then◌else◌, List, [], Option, Some, None, is_some, is_none, position, find, codes, slice_get, option_and_then}
use Rattle.std.specs.Option.{option_or}
use Rattle.std.specs.List.{list_any, list_all}
use Rattle.std.specs.Str.{bytes_eq}
use Rattle.jtext.specs.declared.json.Json.{Json}
use Rattle.jtext.specs.Find.{field, fields}
use Rattle.jtext.specs.Look.{is_object, is_list, items, is_string}
use Rattle.nb_model.specs.Keys.{is_text, has, may_have}
use Rattle.jtext.specs.Bundle.{is_multiline, is_bundle, is_json_type}
use Rattle.nb_model.specs.Schema.{notebook_keys, kernelspec_required, language_info_required, prose_cell_required, prose_cell_keys, code_cell_keys, stream_required, display_required, result_required, error_required, output_keys}
use Rattle.nb_model.specs.Values.{is_count}
use Rattle.nb_model.specs.Valid.{is_id, is_output, is_cell}
use Rattle.nb_model.specs.Pointer.{place_unless, under_key, under_item}

-- ---- objects and lists

-- each of these keys is there
abbrev pub has_all : List (List ℕ) → Json → Bool
has_all keys t = list_all (λ key. is_some (field t key)) keys

-- the key of the first pair whose key isn't known
abbrev pub of_unknown : (List ℕ → Bool) → List (List ℕ × Json) → Option (List ℕ)
of_unknown is_known ps = option_and_then (λ p. under_key p.0 (Some [])) (find (λ p. not (is_known p.0)) ps)

-- the keys of an object: a missing one, else the first that isn't known
abbrev pub of_keys : List (List ℕ) → List (List ℕ) → Json → Option (List ℕ)
of_keys required known t = option_or (place_unless (has_all required t))
    (of_unknown (λ k. list_any (λ key. bytes_eq k key) known) (fields t))

-- the keys of an output that has to have these beside its `output_type`: a missing one, else the first that isn't known
abbrev pub of_output_keys : List (List ℕ) → Json → Option (List ℕ)
of_output_keys required o = of_keys required (output_keys required) o

-- the value of a key, where it is there and fails the test
abbrev pub of_value : List ℕ → (Json → Bool) → Json → Option (List ℕ)
of_value key test t = under_key key (place_unless (may_have key test t))

-- the place within the value of a key, where it is there
abbrev pub within_value : List ℕ → (Json → Option (List ℕ)) → Json → Option (List ℕ)
within_value key place t = under_key key (option_and_then place (field t key))

-- the place within the first item that fails the test
abbrev pub within_items : (Json → Bool) → (Json → Option (List ℕ)) → List Json → Option (List ℕ)
within_items test place xs =
    option_and_then (λ i. under_item i (option_and_then place (slice_get xs i)))
    (position (λ x. not (test x)) xs)

-- the place within the value of the first pair that fails the test
abbrev pub within_pairs : (List ℕ × Json → Bool) → (Json → Option (List ℕ)) → List (List ℕ × Json) → Option (List ℕ)
within_pairs test place ps = option_and_then (λ p. under_key p.0 (place p.1)) (find (λ p. not (test p)) ps)

-- ---- values

-- a list of strings: the first item that is none
abbrev pub of_strings : Json → Option (List ℕ)
of_strings v =
    if is_list v then option_and_then (λ i. under_item i (Some [])) (position (λ x. not (is_string x)) (items v))
    else Some []

-- `misc.multiline_string`: a string, or a list of them
abbrev pub of_multiline : Json → Option (List ℕ)
of_multiline v = if is_string v then None else of_strings v

-- `misc.mimebundle`: the first value that is neither free nor a multiline string
abbrev pub of_bundle : Json → Option (List ℕ)
of_bundle v =
    if is_object v then within_pairs (λ p. is_json_type p.0 || is_multiline p.1) of_multiline (fields v)
    else Some []

-- `misc.attachments`: within the first that is no bundle
abbrev pub of_attachments : Json → Option (List ℕ)
of_attachments v = if is_object v then within_pairs (λ p. is_bundle p.1) of_bundle (fields v) else Some []

-- ---- outputs

-- `stream`: keys, name, text
abbrev pub of_stream : Json → Option (List ℕ)
of_stream o = option_or (of_output_keys stream_required o)
    (option_or (of_value (codes "name") is_string o) (within_value (codes "text") of_multiline o))

-- the values of `data` and `metadata`
abbrev pub of_data : Json → Option (List ℕ)
of_data o = option_or (within_value (codes "data") of_bundle o) (of_value (codes "metadata") is_object o)

-- `display_data`: keys, data, metadata
abbrev pub of_display : Json → Option (List ℕ)
of_display o = option_or (of_output_keys display_required o) (of_data o)

-- `execute_result`: keys, data, metadata, count
abbrev pub of_result : Json → Option (List ℕ)
of_result o = option_or (of_output_keys result_required o)
    (option_or (of_data o) (of_value (codes "execution_count") is_count o))

-- `error`: keys, name, value, traceback
abbrev pub of_error : Json → Option (List ℕ)
of_error o = option_or (of_output_keys error_required o)
    (option_or (of_value (codes "ename") is_string o) (option_or (of_value (codes "evalue") is_string o)
    (within_value (codes "traceback") of_strings o)))

-- an object by its `output_type`
abbrev pub by_type : Json → Option (List ℕ)
by_type o =
    if has (codes "output_type") (is_text (codes "stream")) o then of_stream o
    else if has (codes "output_type") (is_text (codes "display_data")) o then of_display o
    else if has (codes "output_type") (is_text (codes "execute_result")) o then of_result o
    else if has (codes "output_type") (is_text (codes "error")) o then of_error o
    else if is_none (field o (codes "output_type")) then Some []
    else under_key (codes "output_type") (Some [])

-- `output`: an object, and then its kind
abbrev pub of_output : Json → Option (List ℕ)
of_output o = if is_object o then by_type o else Some []

-- `outputs`: within the first item that is no output
abbrev pub of_outputs : Json → Option (List ℕ)
of_outputs v = if is_list v then within_items is_output of_output (items v) else Some []

-- ---- cells

-- metadata of a cell: an object, and then its tags
abbrev pub of_cell_metadata : Json → Option (List ℕ)
of_cell_metadata v = if is_object v then within_value (codes "tags") of_strings v else Some []

-- the values that every cell has
abbrev pub of_common : Json → Option (List ℕ)
of_common c = option_or (of_value (codes "id") is_id c)
    (option_or (within_value (codes "metadata") of_cell_metadata c) (within_value (codes "source") of_multiline c))

-- `raw_cell`, `markdown_cell`: keys, the values of every cell, attachments
abbrev pub of_prose_cell : Json → Option (List ℕ)
of_prose_cell c = option_or (of_keys prose_cell_required prose_cell_keys c)
    (option_or (of_common c) (within_value (codes "attachments") of_attachments c))

-- `code_cell`: keys, the values of every cell, count, outputs
abbrev pub of_code_cell : Json → Option (List ℕ)
of_code_cell c = option_or (of_keys code_cell_keys code_cell_keys c)
    (option_or (of_common c) (option_or (of_value (codes "execution_count") is_count c)
    (within_value (codes "outputs") of_outputs c)))

-- an object by its `cell_type`
abbrev pub by_kind : Json → Option (List ℕ)
by_kind c =
    if has (codes "cell_type") (λ v. is_text (codes "raw") v || is_text (codes "markdown") v) c then of_prose_cell c
    else if has (codes "cell_type") (is_text (codes "code")) c then of_code_cell c
    else if is_none (field c (codes "cell_type")) then Some []
    else under_key (codes "cell_type") (Some [])

-- `cell`: an object, and then its kind
abbrev pub of_cell : Json → Option (List ℕ)
of_cell c = if is_object c then by_kind c else Some []

-- `cells`: within the first item that is no cell
abbrev pub of_cells : Json → Option (List ℕ)
of_cells v = if is_list v then within_items is_cell of_cell (items v) else Some []

-- ---- the notebook

-- `metadata.kernelspec`: its two keys and their values
abbrev pub of_kernelspec : Json → Option (List ℕ)
of_kernelspec v = if is_object v then option_or (place_unless (has_all kernelspec_required v))
    (option_or (of_value (codes "name") is_string v) (of_value (codes "display_name") is_string v)) else Some []

-- `metadata.language_info`: its key and its value
abbrev pub of_language_info : Json → Option (List ℕ)
of_language_info v =
    if is_object v
    then option_or (place_unless (has_all language_info_required v)) (of_value (codes "name") is_string v)
    else Some []

-- `metadata`: the kernel, and then the language
abbrev pub of_metadata : Json → Option (List ℕ)
of_metadata v =
    if is_object v then option_or (within_value (codes "kernelspec") of_kernelspec v)
    (within_value (codes "language_info") of_language_info v)
    else Some []

-- an object that has its version
abbrev pub of_notebook : Json → Option (List ℕ)
of_notebook t = option_or (of_keys notebook_keys notebook_keys t)
    (option_or (within_value (codes "metadata") of_metadata t) (within_value (codes "cells") of_cells t))
