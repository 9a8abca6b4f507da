-- The scraps of a notebook: named values that its outputs carry. The library scrapbook shows a scrap as data of
-- the media type `application/scrapbook.scrap.json+json`; any kernel can print the row `scrap NAME = VALUE`.
use Rattle.std.specs.Prelude.{ℕ, ◌==◌, ◌||◌, List, [], ◌∷◌, if◌then◌else◌, flat_map, codes, Option, Some, None, option_and_then}
use Rattle.std.specs.List.{before_first, after_first}
use Rattle.jtext.specs.declared.json.Json.{Json}
use Rattle.jtext.specs.Find.{field}
use Rattle.jtext.specs.Look.{string_at}
use Rattle.jtext.specs.Names.{is_name}
use Rattle.jtext.specs.Readings.{strip_word}
use Rattle.nb_model.specs.declared.cell.Cell.{Cell}
use Rattle.nb_model.specs.declared.notebook.Notebook.{Notebook}
use Rattle.nb_model.specs.Keys.{is_text, has}
use Rattle.nb_model.specs.Planned.{joined_text}
use Rattle.nb_model.specs.Reading.{value_at}
use Rattle.report_text.specs.Page.{is_of_type}
use Rattle.report_text.specs.Rows.{rows}
use Rattle.scrap_book.specs.Merging.{merged}
use Rattle.words.specs.Values.{value_of}

-- ---- rows

-- the name and the text of its value, where the name is a parameter name
abbrev pub texts_named : List ℕ → Option (List ℕ) → Option (List ℕ × List ℕ)
texts_named name None = None
texts_named name (Some text) = if is_name name then Some (name, text) else None

-- the texts in `NAME = VALUE`: the name ends at the first space
abbrev pub texts_after : Option (List ℕ) → Option (List ℕ × List ℕ)
texts_after None = None
texts_after (Some rest) =
    texts_named (before_first (λ c. c == 32) rest) (strip_word (codes "= ") (after_first (λ c. c == 32) rest))

-- the texts of NAME and VALUE in the row `scrap NAME = VALUE`, NAME being a parameter name
abbrev pub scrap_texts : List ℕ → Option (List ℕ × List ℕ)
scrap_texts row = texts_after (strip_word (codes "scrap ") row)

-- the name with the value that the text stands for as a parameter on the command line
abbrev pub pairs_of_texts : Option (List ℕ × List ℕ) → List (List ℕ × Json)
pairs_of_texts None = []
pairs_of_texts (Some texts) = (texts.0, value_of texts.1) ∷ []

-- the scrap of a row, if it gives one
abbrev pub row_scraps : List ℕ → List (List ℕ × Json)
row_scraps row = pairs_of_texts (scrap_texts row)

-- the scraps of a stream: those of the rows that were printed to the standard output
abbrev pub stream_scraps : Json → List (List ℕ × Json)
stream_scraps o =
    if has (codes "name") (is_text (codes "stdout")) o
    then flat_map row_scraps (rows (joined_text (value_at (codes "text") o)))
    else []

-- ---- scrapbook's records

-- the pair of a name and a value, where there are both
abbrev pub pairs_of_both : Option (List ℕ) → Option Json → List (List ℕ × Json)
pairs_of_both None v = []
pairs_of_both (Some name) None = []
pairs_of_both (Some name) (Some v) = (name, v) ∷ []

-- the scrap of a record: an object with a string `name` and a value `data`
abbrev pub recorded_scraps : Json → List (List ℕ × Json)
recorded_scraps recorded = pairs_of_both (string_at recorded (codes "name")) (field recorded (codes "data"))

-- the scrap of a record, if there is a record
abbrev pub optional_scraps : Option Json → List (List ℕ × Json)
optional_scraps None = []
optional_scraps (Some recorded) = recorded_scraps recorded

-- the scrap of data by media type, if there are data
abbrev pub bundle_scraps : Option Json → List (List ℕ × Json)
bundle_scraps bundle =
    optional_scraps (option_and_then (λ b. field b (codes "application/scrapbook.scrap.json+json")) bundle)

-- ---- notebooks

-- the scraps of an output
abbrev pub output_scraps : Json → List (List ℕ × Json)
output_scraps o =
    if is_of_type (codes "stream") o then stream_scraps o
    else if is_of_type (codes "display_data") o || is_of_type (codes "execute_result") o
    then bundle_scraps (field o (codes "data"))
    else []

-- the scraps of a cell's outputs, in their order
abbrev pub cell_scraps : Cell → List (List ℕ × Json)
cell_scraps c = flat_map output_scraps c.outputs

-- the scraps of a notebook: those of its cells in their order, each name once
abbrev pub scraps : Notebook → List (List ℕ × Json)
scraps n = merged (flat_map cell_scraps n.cells)
