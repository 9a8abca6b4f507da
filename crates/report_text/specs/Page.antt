-- A notebook as a page of HTML (the HTML standard, sections 13.1.2 "Elements" and 13.3 "Serializing HTML
-- fragments", where text is escaped).
use Rattle.std.specs.Prelude.{ℕ, Bool, List, [], ◌∷◌, ◌++◌, ◌==◌, if◌then◌else◌, flat_map, codes, Option, Some, None}
use Rattle.std.specs.List.{join_by}
use Rattle.jtext.specs.declared.json.Json.{Json}
use Rattle.jtext.specs.Find.{field, fields}
use Rattle.jtext.specs.Look.{items, text_of}
use Rattle.jtext.specs.Sorting.{by_key}
use Rattle.nb_model.specs.declared.kind.Kind.{Kind}
use Rattle.nb_model.specs.declared.kind.Kind.TheVariants as kind
use Rattle.nb_model.specs.declared.cell.Cell.{Cell}
use Rattle.nb_model.specs.declared.notebook.Notebook.{Notebook}
use Rattle.nb_model.specs.Keys.{is_text, has}
use Rattle.nb_model.specs.Planned.{code, joined_text}
use Rattle.nb_model.specs.Reading.{value_at}
use Rattle.nb_model.specs.Tree.{kind_name}

-- ---- text

-- what stands in a page for an octet of a text
abbrev pub escaped_octet : ℕ → List ℕ
escaped_octet c =
    if c == 38 then codes "&amp;"
    else if c == 60 then codes "&lt;"
    else if c == 62 then codes "&gt;"
    else if c == 34 then codes "&quot;"
    else c ∷ []

-- what stands in a page for a text
abbrev pub escaped : List ℕ → List ℕ
escaped text = flat_map escaped_octet text

-- what stands before the text of a block of this class
abbrev pub block_start : List ℕ → List ℕ
block_start class = codes "<pre class=\"" ++ (class ++ codes "\">")

-- what stands after the text of a block
abbrev pub block_end : List ℕ
block_end = codes "</pre>\n"

-- a block of this class that shows this text
abbrev pub block : List ℕ → List ℕ → List ℕ
block class text = block_start class ++ (escaped text ++ block_end)

-- ---- outputs

-- an output is of this type
abbrev pub is_of_type : List ℕ → Json → Bool
is_of_type name o = has (codes "output_type") (is_text name) o

-- the class of an output: that of a stream, of an error, or of data
abbrev pub output_class : Json → List ℕ
output_class o =
    if is_of_type (codes "stream") o then codes "stream"
    else if is_of_type (codes "error") o then codes "error"
    else codes "data"

-- the key of the first of these pairs, and nothing where there is none
abbrev pub first_key : List (List ℕ × Json) → List ℕ
first_key [] = []
first_key (p ∷ ps) = p.0

-- the least key of an object in the order of bytes, and nothing where it has none
abbrev pub least_key : Json → List ℕ
least_key t = first_key (by_key (fields t))

-- a plain text, or the least key between brackets where there is no plain text
abbrev pub plain_text : Option Json → Json → List ℕ
plain_text None bundle = 91 ∷ (least_key bundle ++ 93 ∷ [])
plain_text (Some v) bundle = joined_text v

-- what is shown of data by media type: its plain text, or else the name of one type
abbrev pub data_text : Json → List ℕ
data_text bundle = plain_text (field bundle (codes "text/plain")) bundle

-- what is shown of an output
abbrev pub output_text : Json → List ℕ
output_text o =
    if is_of_type (codes "stream") o then joined_text (value_at (codes "text") o)
    else if is_of_type (codes "error") o
    then join_by text_of (10 ∷ []) (items (value_at (codes "traceback") o))
    else data_text (value_at (codes "data") o)

-- ---- the page

-- the outputs that a page shows: those of a code cell
abbrev pub shown_outputs : Kind → List Json → List Json
shown_outputs kind.Raw outputs = []
shown_outputs kind.Markdown outputs = []
shown_outputs kind.Code outputs = outputs

-- the block of an output
abbrev pub output_block : Json → List ℕ
output_block o = block (output_class o) (output_text o)

-- the blocks of a cell: one of its source, and one of each output
abbrev pub cell_blocks : Cell → List ℕ
cell_blocks c = block (kind_name c.kind) (code c) ++ flat_map output_block (shown_outputs c.kind c.outputs)

-- what stands before the blocks
abbrev pub page_start : List ℕ
page_start =
    codes "<!DOCTYPE html>\n<html><head><meta charset=\"utf-8\"><title>notebook</title></head><body>\n"

-- what stands after the blocks
abbrev pub page_end : List ℕ
page_end = codes "</body></html>\n"

-- a notebook as a page
abbrev pub page : Notebook → List ℕ
page n = page_start ++ (flat_map cell_blocks n.cells ++ page_end)
