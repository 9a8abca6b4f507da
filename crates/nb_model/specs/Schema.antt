-- The keys of the objects of a notebook (nbformat 4.5 schema: `required`; and `properties`, where
-- `additionalProperties` is false).
use Rattle.std.specs.Prelude.{ℕ, List, [], ◌∷◌, codes}

-- `nbformat`: the notebook's own keys, all of them required
abbrev pub notebook_keys : List (List ℕ)
notebook_keys =
    codes "metadata" ∷ codes "nbformat" ∷ codes "nbformat_minor" ∷ codes "cells" ∷ []

-- `metadata.kernelspec`: the keys that it has to have
abbrev pub kernelspec_required : List (List ℕ)
kernelspec_required = codes "name" ∷ codes "display_name" ∷ []

-- `metadata.language_info`: the key that it has to have
abbrev pub language_info_required : List (List ℕ)
language_info_required = codes "name" ∷ []

-- `raw_cell`, `markdown_cell`: the keys that one has to have
abbrev pub prose_cell_required : List (List ℕ)
prose_cell_required = codes "cell_type" ∷ codes "id" ∷ codes "metadata" ∷ codes "source" ∷ []

-- `raw_cell`, `markdown_cell`: the keys that one may have
abbrev pub prose_cell_keys : List (List ℕ)
prose_cell_keys =
    codes "cell_type" ∷ codes "id" ∷ codes "metadata" ∷ codes "source" ∷ codes "attachments" ∷ []

-- `code_cell`: its keys, all of them required
abbrev pub code_cell_keys : List (List ℕ)
code_cell_keys =
    codes "cell_type" ∷ codes "id" ∷ codes "metadata" ∷ codes "source" ∷ codes "outputs"
    ∷ codes "execution_count" ∷ []

-- `stream`: the keys beside `output_type`, all of them required
abbrev pub stream_required : List (List ℕ)
stream_required = codes "name" ∷ codes "text" ∷ []

-- `display_data`: the keys beside `output_type`, all of them required
abbrev pub display_required : List (List ℕ)
display_required = codes "data" ∷ codes "metadata" ∷ []

-- `execute_result`: the keys beside `output_type`, all of them required
abbrev pub result_required : List (List ℕ)
result_required = codes "data" ∷ codes "metadata" ∷ codes "execution_count" ∷ []

-- `error`: the keys beside `output_type`, all of them required
abbrev pub error_required : List (List ℕ)
error_required = codes "ename" ∷ codes "evalue" ∷ codes "traceback" ∷ []

-- the keys of an output that has to have these beside its `output_type`
abbrev pub output_keys : List (List ℕ) → List (List ℕ)
output_keys required = codes "output_type" ∷ required
