-- The tree of a notebook (nbformat 4.5). Its keys stand in the order of their bytes, as they are saved.
use Rattle.std.specs.Prelude.{ℕ, List, [], ◌∷◌, ◌++◌, map, codes, Option, Some, None}
use Rattle.jtext.specs.declared.json.Json.{Json}
use Rattle.jtext.specs.declared.json.Json.TheVariants as json
use Rattle.nb_model.specs.declared.kind.Kind.{Kind}
use Rattle.nb_model.specs.declared.kind.Kind.TheVariants as kind
use Rattle.nb_model.specs.declared.cell.Cell.{Cell}
use Rattle.nb_model.specs.declared.notebook.Notebook.{Notebook}

-- `cell_type`
abbrev pub kind_name : Kind → List ℕ
kind_name kind.Raw = codes "raw"
kind_name kind.Markdown = codes "markdown"
kind_name kind.Code = codes "code"

-- the pair of a value that may be absent
abbrev pub optional_pair : List ℕ → Option Json → List (List ℕ × Json)
optional_pair key None = []
optional_pair key (Some v) = (key, v) ∷ []

-- a count, or `null`
abbrev pub count_tree : Option (List ℕ) → Json
count_tree None = json.Null
count_tree (Some s) = json.Num s

-- the pairs that a cell of this kind has besides those that every cell has
abbrev pub pairs_of_kind : Kind → Cell → List (List ℕ × Json)
pairs_of_kind kind.Raw c = (codes "cell_type", json.Str (kind_name kind.Raw)) ∷ []
pairs_of_kind kind.Markdown c = (codes "cell_type", json.Str (kind_name kind.Markdown)) ∷ []
pairs_of_kind kind.Code c =
    (codes "cell_type", json.Str (kind_name kind.Code)) ∷ (codes "execution_count", count_tree c.count) ∷ []

-- `outputs`, of a code cell alone
abbrev pub outputs_of_kind : Kind → Cell → List (List ℕ × Json)
outputs_of_kind kind.Raw c = []
outputs_of_kind kind.Markdown c = []
outputs_of_kind kind.Code c = (codes "outputs", json.Arr c.outputs) ∷ []

-- `attachments`, of the other kinds, where the cell has them
abbrev pub attachments_of_kind : Kind → Cell → List (List ℕ × Json)
attachments_of_kind kind.Raw c = optional_pair (codes "attachments") c.attachments
attachments_of_kind kind.Markdown c = optional_pair (codes "attachments") c.attachments
attachments_of_kind kind.Code c = []

-- the tree of a cell
abbrev pub cell_tree : Cell → Json
cell_tree c = json.Obj (attachments_of_kind c.kind c ++ (pairs_of_kind c.kind c
    ++ ((codes "id", json.Str c.id) ∷ (codes "metadata", c.metadata)
    ∷ (outputs_of_kind c.kind c ++ (codes "source", c.source) ∷ []))))

-- the tree of a notebook
abbrev pub notebook_tree : Notebook → Json
notebook_tree n = json.Obj ((codes "cells", json.Arr (map cell_tree n.cells)) ∷ (codes "metadata", n.metadata)
    ∷ (codes "nbformat", json.Num (codes "4")) ∷ (codes "nbformat_minor", json.Num (codes "5")) ∷ [])
