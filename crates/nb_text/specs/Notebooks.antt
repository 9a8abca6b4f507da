-- The text of a notebook, and from the texts of its cells (nbformat 4.5, its keys sorted).
use Rattle.std.specs.Prelude.{ℕ, List, [], ◌∷◌, ◌++◌, map, codes, replicate}
use Rattle.jtext.specs.declared.json.Json.{Json}
use Rattle.jtext.specs.Print.{join}
use Rattle.jtext.specs.Indent.{on_line, bracket, print}
use Rattle.nb_model.specs.declared.notebook.Notebook.{Notebook}
use Rattle.nb_model.specs.Tree.{notebook_tree}
use Rattle.nb_text.specs.Lines.{line, named_line}

-- the text of a notebook: its tree, indented
abbrev pub text_of : Notebook → List ℕ
text_of n = print (notebook_tree n)

-- texts of cells, each on lines of its own, with a comma between
abbrev pub cell_lines : List (List ℕ) → List ℕ
cell_lines texts = join (map (on_line (replicate 2 32)) texts)

-- `cells`: the line of its key, and the cells between brackets
abbrev pub cells_line : List (List ℕ) → List ℕ
cells_line texts = named_line (replicate 1 32) (codes "cells") (bracket 91 93 (replicate 1 32) texts)

-- what stands after `cells`: `metadata`, `nbformat`, `nbformat_minor`, and the end
abbrev pub rest_text : Json → List ℕ
rest_text metadata =
    44 ∷ (line (replicate 1 32) (codes "metadata", metadata)
    ++ 44 ∷ (named_line (replicate 1 32) (codes "nbformat") (codes "4")
    ++ 44 ∷ (named_line (replicate 1 32) (codes "nbformat_minor") (codes "5") ++ 10 ∷ 125 ∷ 10 ∷ [])))

-- the text of a notebook with these metadata, whose cells have these texts
abbrev pub notebook_text : Json → List (List ℕ) → List ℕ
notebook_text metadata texts = 123 ∷ (cells_line texts ++ rest_text metadata)
