-- A notebook with parameters injected, as Papermill does it: the new cell, the record of the parameters, and
-- hidden sources for a report.
use Rattle.std.specs.Prelude.{ℕ, zero, suc, ◌+◌, Bool, true, List, [], ◌∷◌, ◌++◌, map, take, drop, length, codes, ◌||◌, if◌then◌else◌, Option, Some, None, unwrap_or, option_and_then, position}
use Rattle.std.specs.List.{list_any}
use Rattle.std.specs.Str.{bytes_eq}
use Rattle.std.specs.Fmt.{decimal}
use Rattle.jtext.specs.declared.json.Json.{Json}
use Rattle.jtext.specs.declared.json.Json.TheVariants as json
use Rattle.jtext.specs.Find.{field}
use Rattle.jtext.specs.Look.{string}
use Rattle.nb_model.specs.declared.kind.Kind.TheVariants as kind
use Rattle.nb_model.specs.declared.cell.Cell.{Cell}
use Rattle.nb_model.specs.declared.notebook.Notebook.{Notebook}
use Rattle.nb_model.specs.Lines.{lines_tree}
use Rattle.nb_params.specs.Python.{python}
use Rattle.jtext.specs.Edit.{set_within}
use Rattle.nb_model.specs.Kind.{is_code}
use Rattle.nb_model.specs.Tags.{is_tagged}

-- ---- what is asked of a notebook

-- the string under a key of the object under another key
abbrev pub string_within : List ℕ → List ℕ → Json → Option (List ℕ)
string_within outer key t = option_and_then string (option_and_then (λ o. field o key) (field t outer))

-- the language of a notebook's cells: the kernel's, else the one that its kernel told, else Python
abbrev pub language : Notebook → List ℕ
language n = unwrap_or (string_within (codes "kernelspec") (codes "language") n.metadata)
    (unwrap_or (string_within (codes "language_info") (codes "name") n.metadata) (codes "python"))

-- parameters can be written in the language
abbrev pub has_translator : Notebook → Bool
has_translator n = bytes_eq (language n) (codes "python") || bytes_eq (language n) (codes "toy")

-- ---- the new cell

-- the id with a number
abbrev pub numbered_id : ℕ → List ℕ
numbered_id n = codes "injected-parameters-" ++ decimal n

-- the least number from n on whose id isn't taken, in at most so many steps
abbrev pub free_from : ℕ → ℕ → List (List ℕ) → ℕ
free_from zero n ids = n
free_from (suc steps) n ids = if list_any (bytes_eq (numbered_id n)) ids then free_from steps (n + 1) ids else n

-- an id that none of these is; as many steps as there are ids always find one
abbrev pub fresh_id : List (List ℕ) → List ℕ
fresh_id ids =
    if list_any (bytes_eq (codes "injected-parameters")) ids then numbered_id (free_from (length ids) 1 ids)
    else codes "injected-parameters"

-- its metadata: the tag by which it is found again
abbrev pub parameters_metadata : Json
parameters_metadata =
    json.Obj ((codes "tags", json.Arr (json.Str (codes "injected-parameters") ∷ [])) ∷ [])

-- the cell of the parameters
abbrev pub parameters_cell : List ℕ → List (List ℕ × Json) → Cell
parameters_cell id ps = record {
  kind = kind.Code;
  id = id;
  metadata = parameters_metadata;
  source = lines_tree (python ps);
  attachments = None;
  outputs = [];
  count = None;
}

-- the ids of the cells
abbrev pub ids : List Cell → List (List ℕ)
ids cells = map (λ c. c.id) cells

-- after this cell, or first
abbrev pub placed_after : Option ℕ → List (List ℕ × Json) → List Cell → List Cell
placed_after None ps cells = parameters_cell (fresh_id (ids cells)) ps ∷ cells
placed_after (Some i) ps cells = take (i + 1) cells ++ parameters_cell (fresh_id (ids cells)) ps ∷ drop (i + 1) cells

-- in the place of this cell, or after the cell with defaults, or first
abbrev pub placed_at : Option ℕ → List (List ℕ × Json) → List Cell → List Cell
placed_at None ps cells = placed_after (position (is_tagged (codes "parameters")) cells) ps cells
placed_at (Some i) ps cells =
    take i cells ++ parameters_cell (fresh_id (ids (take i cells ++ drop (i + 1) cells))) ps ∷ drop (i + 1) cells

-- the cells with the new one: it replaces the first one that an earlier injection made
abbrev pub with_parameters : List (List ℕ × Json) → List Cell → List Cell
with_parameters ps cells = placed_at (position (is_tagged (codes "injected-parameters")) cells) ps cells

-- ---- records in metadata

-- the notebook's metadata with the record of the parameters
abbrev pub recorded_metadata : List (List ℕ × Json) → Json → Json
recorded_metadata ps metadata = set_within (codes "papermill") (codes "parameters") (json.Obj ps) metadata

-- a code cell with its source hidden, for a report
abbrev pub hidden_cell : Cell → Cell
hidden_cell c =
    if is_code c.kind
    then record c { metadata = set_within (codes "jupyter") (codes "source_hidden") (json.Bool true) c.metadata }
    else c

-- ---- the injected notebook

-- with these parameters, if there are any
abbrev pub parametrised_notebook : Notebook → List (List ℕ × Json) → Notebook
parametrised_notebook n [] = n
parametrised_notebook n (p ∷ ps) = record {
  metadata = recorded_metadata (p ∷ ps) n.metadata;
  cells = with_parameters (p ∷ ps) n.cells;
}

-- the injected notebook, for a report or not
abbrev pub injected_notebook : Notebook → List (List ℕ × Json) → Bool → Notebook
injected_notebook n ps report =
    if report
    then record (parametrised_notebook n ps) { cells = map hidden_cell (parametrised_notebook n ps).cells }
    else parametrised_notebook n ps
