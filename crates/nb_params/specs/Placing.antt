-- The place of the injected cell (Papermill, `parameterize_notebook`).
use Rattle.std.specs.Prelude.{ℕ, ◌+◌, List, ◌∷◌, ◌++◌, take, drop, codes, Option, Some, None, position}
use Rattle.jtext.specs.declared.json.Json.{Json}
use Rattle.nb_model.specs.declared.cell.Cell.{Cell}
use Rattle.nb_model.specs.Tags.{is_tagged}
use Rattle.nb_params.specs.Injected.{ids, fresh_id, parameters_cell}

-- the cells with that of the parameters at this place
abbrev pub with_cell : ℕ → List (List ℕ × Json) → List Cell → List Cell
with_cell at ps cells = take at cells ++ parameters_cell (fresh_id (ids cells)) ps ∷ drop at cells

-- the place after this cell, or the first
abbrev pub place_behind : Option ℕ → ℕ
place_behind None = 0
place_behind (Some i) = i + 1

-- the place after the first cell tagged `parameters`, or the first
abbrev pub place_after : List Cell → ℕ
place_after cells = place_behind (position (is_tagged (codes "parameters")) cells)
