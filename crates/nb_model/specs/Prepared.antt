-- A notebook before it is run, as Papermill prepares it: outputs and counts are cleared, and every cell
-- is marked as pending.
use Rattle.std.specs.Prelude.{[], ◌∷◌, map, codes, None, if◌then◌else◌}
use Rattle.jtext.specs.declared.json.Json.{Json}
use Rattle.jtext.specs.declared.json.Json.TheVariants as json
use Rattle.nb_model.specs.declared.cell.Cell.{Cell}
use Rattle.nb_model.specs.declared.notebook.Notebook.{Notebook}
use Rattle.jtext.specs.Edit.{set_field, set_within}
use Rattle.nb_model.specs.Kind.{is_code}

-- the mark of a cell that waits
abbrev pub pending_mark : Json
pending_mark = json.Obj ((codes "exception", json.Null) ∷ (codes "status", json.Str (codes "pending")) ∷ [])

-- a code cell without outputs and count, another cell as it is
abbrev pub cleared_cell : Cell → Cell
cleared_cell c = if is_code c.kind then record c { outputs = []; count = None } else c

-- a cell cleared and marked
abbrev pub prepared_cell : Cell → Cell
prepared_cell c = record (cleared_cell c) { metadata = set_field (codes "papermill") pending_mark c.metadata }

-- the notebook with its cells prepared, and no exception on record
abbrev pub prepared_notebook : Notebook → Notebook
prepared_notebook n = record {
  metadata = set_within (codes "papermill") (codes "exception") json.Null n.metadata;
  cells = map prepared_cell n.cells;
}
