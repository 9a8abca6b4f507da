-- The notebook that a tree is (nbformat 4.5), part by part. It says something only of trees that are notebooks.
use Rattle.std.specs.Prelude.{ℕ, List, [], map, codes, unwrap_or, if◌then◌else◌}
use Rattle.std.specs.Str.{bytes_eq}
use Rattle.jtext.specs.declared.json.Json.{Json}
use Rattle.jtext.specs.declared.json.Json.TheVariants as json
use Rattle.jtext.specs.Find.{field}
use Rattle.jtext.specs.Look.{items, string_at, number_at}
use Rattle.nb_model.specs.declared.kind.Kind.{Kind}
use Rattle.nb_model.specs.declared.kind.Kind.TheVariants as kind
use Rattle.nb_model.specs.declared.cell.Cell.{Cell}
use Rattle.nb_model.specs.declared.notebook.Notebook.{Notebook}
use Rattle.nb_model.specs.Valid.{id_of}

-- the value under a key, and `null` where there is none
abbrev pub value_at : List ℕ → Json → Json
value_at key t = unwrap_or (field t key) json.Null

-- the kind that `cell_type` names
abbrev pub kind_named : List ℕ → Kind
kind_named name =
    if bytes_eq name (codes "code") then kind.Code
    else if bytes_eq name (codes "markdown") then kind.Markdown
    else kind.Raw

-- the cell of a tree
abbrev pub cell_of : Json → Cell
cell_of c = record {
  kind = kind_named (unwrap_or (string_at c (codes "cell_type")) []);
  id = id_of c;
  metadata = value_at (codes "metadata") c;
  source = value_at (codes "source") c;
  attachments = field c (codes "attachments");
  outputs = items (value_at (codes "outputs") c);
  count = number_at c (codes "execution_count");
}

-- the notebook of a tree
abbrev pub notebook_of : Json → Notebook
notebook_of t = record {
  metadata = value_at (codes "metadata") t;
  cells = map cell_of (items (value_at (codes "cells") t));
}
