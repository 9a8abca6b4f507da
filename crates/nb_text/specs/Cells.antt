-- The lines of a cell in a notebook's text (nbformat 4.5, in the order in which its keys are sorted).
use Rattle.std.specs.Prelude.{ℕ, List, [], ◌∷◌, ◌++◌, codes, replicate, Option}
use Rattle.jtext.specs.declared.json.Json.{Json}
use Rattle.jtext.specs.declared.json.Json.TheVariants as json
use Rattle.nb_model.specs.declared.cell.Cell.{Cell}
use Rattle.nb_model.specs.declared.kind.Kind.{Kind}
use Rattle.nb_model.specs.declared.kind.Kind.TheVariants as kind
use Rattle.nb_model.specs.Tree.{cell_tree, count_tree, optional_pair}
use Rattle.jtext.specs.Indent.{indent}
use Rattle.nb_text.specs.Lines.{line}

-- the pairs that a raw cell and a markdown cell have
abbrev pub common_pairs : List ℕ → Cell → List (List ℕ × Json)
common_pairs kind c =
    (codes "cell_type", json.Str kind) ∷ (codes "id", json.Str c.id)
    ∷ (codes "metadata", c.metadata) ∷ (codes "source", c.source) ∷ []

-- the pairs of a raw or a markdown cell, with its attachments where there are some
abbrev pub prose_pairs : List ℕ → Cell → List (List ℕ × Json)
prose_pairs kind c = optional_pair (codes "attachments") c.attachments ++ common_pairs kind c

-- the pairs of a code cell
abbrev pub code_pairs : Cell → List (List ℕ × Json)
code_pairs c =
    (codes "cell_type", json.Str (codes "code")) ∷ (codes "execution_count", count_tree c.count)
    ∷ (codes "id", json.Str c.id)
    ∷ (codes "metadata", c.metadata) ∷ (codes "outputs", json.Arr c.outputs) ∷ (codes "source", c.source) ∷ []

-- the pairs of a cell of this kind
abbrev pub pairs_of : Kind → Cell → List (List ℕ × Json)
pairs_of kind.Raw c = prose_pairs (codes "raw") c
pairs_of kind.Markdown c = prose_pairs (codes "markdown") c
pairs_of kind.Code c = code_pairs c

-- the pairs of a cell, sorted by their keys
abbrev pub sorted_pairs : Cell → List (List ℕ × Json)
sorted_pairs c = pairs_of c.kind c

-- the text that a cell has among the cells of a notebook's text: without the margin before it and the comma after it
abbrev pub cell_text : Cell → List ℕ
cell_text c = indent (cell_tree c) (replicate 2 32)

-- the line of a code cell's count
abbrev pub count_line : Option (List ℕ) → List ℕ
count_line count = line (replicate 3 32) (codes "execution_count", count_tree count)

-- the lines of a code cell's outputs
abbrev pub outputs_line : List Json → List ℕ
outputs_line outputs = line (replicate 3 32) (codes "outputs", json.Arr outputs)
