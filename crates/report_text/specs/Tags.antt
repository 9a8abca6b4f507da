-- The tags of a page, and those that a notebook's kinds of cells and outputs give.
use Rattle.std.specs.Prelude.{ℕ, List, [], ◌∷◌, ◌++◌, ◌==◌, if◌then◌else◌, map, flat_map, codes}
use Rattle.nb_model.specs.declared.cell.Cell.{Cell}
use Rattle.nb_model.specs.declared.notebook.Notebook.{Notebook}
use Rattle.nb_model.specs.Tree.{kind_name}
use Rattle.report_text.specs.Page.{block_start, output_class, shown_outputs}

-- the piece of a text up to its first `>`, which is the last octet of the piece
abbrev pub up_to_end : List ℕ → List ℕ
up_to_end [] = []
up_to_end (c ∷ cs) = if c == 62 then c ∷ [] else c ∷ up_to_end cs

-- the tags of a text: from each `<` to the next `>`
abbrev pub tags : List ℕ → List (List ℕ)
tags [] = []
tags (c ∷ cs) = if c == 60 then up_to_end (c ∷ cs) ∷ tags cs else tags cs

-- the tags of a block of this class
abbrev pub block_tags : List ℕ → List (List ℕ)
block_tags class = block_start class ∷ codes "</pre>" ∷ []

-- the classes of a cell's blocks: the name of its kind, and what its outputs are
abbrev pub cell_classes : Cell → List (List ℕ)
cell_classes c = kind_name c.kind ∷ map output_class (shown_outputs c.kind c.outputs)

-- the tags before the blocks
abbrev pub start_tags : List (List ℕ)
start_tags =
    codes "<!DOCTYPE html>" ∷ codes "<html>" ∷ codes "<head>" ∷ codes "<meta charset=\"utf-8\">"
    ∷ codes "<title>" ∷ codes "</title>" ∷ codes "</head>" ∷ codes "<body>" ∷ []

-- the tags after the blocks
abbrev pub end_tags : List (List ℕ)
end_tags = codes "</body>" ∷ codes "</html>" ∷ []

-- the tags that the kinds of a notebook's cells and outputs give, in their order
abbrev pub tags_of : Notebook → List (List ℕ)
tags_of n = start_tags ++ (flat_map block_tags (flat_map cell_classes n.cells) ++ end_tags)
