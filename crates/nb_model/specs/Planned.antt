-- Which cells are executed, as nbclient decides it: code cells that aren't blank and aren't tagged to be skipped.
-- A source is blank where every character has Unicode's property White_Space.
use Rattle.std.specs.Prelude.{ℕ, ◌+◌, Bool, not, ◌&&◌, if◌then◌else◌, List, [], ◌∷◌, ◌++◌, codes, flat_map}
use Rattle.std.specs.List.{list_all}
use Rattle.std.specs.Str.{chars}
use Rattle.unicode.specs.Binary.{is_white_space}
use Rattle.jtext.specs.declared.json.Json.{Json}
use Rattle.jtext.specs.Look.{items, text_of}
use Rattle.nb_model.specs.declared.cell.Cell.{Cell}
use Rattle.nb_model.specs.declared.notebook.Notebook.{Notebook}
use Rattle.nb_model.specs.Tags.{is_tagged}
use Rattle.nb_model.specs.Kind.{is_code}

-- what a multiline string means: its text, or its lines joined
abbrev pub joined_text : Json → List ℕ
joined_text v = text_of v ++ flat_map text_of (items v)

-- the source of a cell as one text
abbrev pub code : Cell → List ℕ
code c = joined_text c.source

-- each character of the text is white space
abbrev pub is_blank : List ℕ → Bool
is_blank text = list_all is_white_space (chars text)

-- the cell is executed
abbrev pub is_planned : Cell → Bool
is_planned c = is_code c.kind && not (is_blank (code c)) && not (is_tagged (codes "skip-execution") c)

-- the indices, from i on, of the cells that are executed
abbrev pub planned_from : ℕ → List Cell → List ℕ
planned_from i [] = []
planned_from i (c ∷ cs) = if is_planned c then i ∷ planned_from (i + 1) cs else planned_from (i + 1) cs

-- the plan of a notebook
abbrev pub plan : Notebook → List ℕ
plan n = planned_from 0 n.cells
