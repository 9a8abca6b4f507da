-- Which trees are notebooks: the schema of nbformat 4.5, and that no two cells have one id. Where another tree
-- fails it, `Places` says; the law `faulty_where_invalid` binds the two.
-- Where the schema asks more, as of the form of tags, it isn't tested here and the value is kept.
use Rattle.std.specs.Prelude.{◌≡◌, ◌≤◌, ℕ, Bool, true, List, [], ◌∷◌, ◌||◌, ◌&&◌, not, codes, unwrap_or}
use Rattle.std.specs.List.{list_any, list_all}
use Rattle.std.specs.Str.{bytes_eq}
use Rattle.jtext.specs.declared.json.Json.{Json}
use Rattle.jtext.specs.Find.{fields}
use Rattle.jtext.specs.Depth.{depth}
use Rattle.jtext.specs.Look.{is_object, is_list, items, string, is_string, is_strings, there_and, string_at}
use Rattle.nb_model.specs.Keys.{is_text, is_number, has, may_have, has_only}
use Rattle.jtext.specs.Bundle.{is_multiline, is_bundle}
use Rattle.nb_model.specs.Schema.{notebook_keys, prose_cell_keys, code_cell_keys, stream_required, display_required, result_required, error_required, output_keys}
use Rattle.nb_model.specs.Values.{is_count, is_id_text}

-- ---- outputs

-- `stream`: text that the kernel wrote to a stream of this name
abbrev pub is_stream : Json → Bool
is_stream o = has (codes "output_type") (is_text (codes "stream")) o
    && has_only (output_keys stream_required) o
    && has (codes "name") is_string o && has (codes "text") is_multiline o

-- `display_data`: data by MIME type
abbrev pub is_display : Json → Bool
is_display o = has (codes "output_type") (is_text (codes "display_data")) o
    && has_only (output_keys display_required) o
    && has (codes "data") is_bundle o && has (codes "metadata") is_object o

-- `execute_result`: the same with a count
abbrev pub is_result : Json → Bool
is_result o = has (codes "output_type") (is_text (codes "execute_result")) o
    && has_only (output_keys result_required) o
    && has (codes "data") is_bundle o && has (codes "metadata") is_object o && has (codes "execution_count") is_count o

-- `error`: what the code raised
abbrev pub is_error : Json → Bool
is_error o = has (codes "output_type") (is_text (codes "error")) o
    && has_only (output_keys error_required) o
    && has (codes "ename") is_string o && has (codes "evalue") is_string o && has (codes "traceback") is_strings o

-- `output`: one of the four kinds
abbrev pub is_output : Json → Bool
is_output o = is_object o && (is_stream o || is_display o || is_result o || is_error o)

-- `outputs` of a code cell
abbrev pub are_outputs : Json → Bool
are_outputs v = is_list v && list_all is_output (items v)

-- ---- cells

-- `id` of a cell
abbrev pub is_id : Json → Bool
is_id v = there_and is_id_text (string v)

-- metadata of a cell: an object, whose tags are strings
abbrev pub is_cell_metadata : Json → Bool
is_cell_metadata v = is_object v && may_have (codes "tags") is_strings v

-- what every kind of cell has
abbrev pub has_common : Json → Bool
has_common c =
    has (codes "id") is_id c && has (codes "metadata") is_cell_metadata c && has (codes "source") is_multiline c

-- attachments: an object of bundles
abbrev pub are_attachments : Json → Bool
are_attachments v = is_object v && list_all (λ p. is_bundle p.1) (fields v)

-- `raw_cell`, `markdown_cell`
abbrev pub is_prose_cell : Json → Bool
is_prose_cell c = has (codes "cell_type") (λ v. is_text (codes "raw") v || is_text (codes "markdown") v) c
    && has_only prose_cell_keys c
    && has_common c && may_have (codes "attachments") are_attachments c

-- `code_cell`
abbrev pub is_code_cell : Json → Bool
is_code_cell c = has (codes "cell_type") (is_text (codes "code")) c
    && has_only code_cell_keys c
    && has_common c && has (codes "outputs") are_outputs c && has (codes "execution_count") is_count c

-- `cell`: one of the three kinds
abbrev pub is_cell : Json → Bool
is_cell c = is_object c && (is_prose_cell c || is_code_cell c)

-- the id of a cell, and the empty text where there is none
abbrev pub id_of : Json → List ℕ
id_of c = unwrap_or (string_at c (codes "id")) []

-- no two of the cells have one id
abbrev pub ids_differ : List Json → Bool
ids_differ [] = true
ids_differ (c ∷ cs) = not (list_any (λ d. bytes_eq (id_of c) (id_of d)) cs) && ids_differ cs

-- `cells`: each is one, and no two have one id
abbrev pub are_cells : Json → Bool
are_cells v = is_list v && list_all is_cell (items v) && ids_differ (items v)

-- ---- the notebook

-- `kernelspec`: which kernel runs it
abbrev pub is_kernelspec : Json → Bool
is_kernelspec v = is_object v && has (codes "name") is_string v && has (codes "display_name") is_string v

-- `language_info`: which language its cells are in
abbrev pub is_language_info : Json → Bool
is_language_info v = is_object v && has (codes "name") is_string v

-- metadata of the notebook
abbrev pub is_metadata : Json → Bool
is_metadata v =
    is_object v && may_have (codes "kernelspec") is_kernelspec v
    && may_have (codes "language_info") is_language_info v

-- the tree is a notebook of format 4.5, whatever its depth
abbrev pub is_notebook : Json → Bool
is_notebook t = is_object t
    && has_only notebook_keys t
    && has (codes "nbformat") (is_number (codes "4")) t && has (codes "nbformat_minor") (is_number (codes "5")) t
    && has (codes "metadata") is_metadata t && has (codes "cells") are_cells t

-- the tree is a notebook, and nested at most so deep as we read
pub record Valid (t : Json) : Type 0 where
  pub notebook : is_notebook t ≡ true
  pub within : depth t ≤ 128
