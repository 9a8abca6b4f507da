-- A notebook as a script, in the form that editors call "percent": a line that begins with `# %%` begins a cell.
use Rattle.std.specs.Prelude.{ℕ, List, [], ◌∷◌, ◌++◌, map, flat_map, codes}
use Rattle.nb_model.specs.declared.kind.Kind.{Kind}
use Rattle.nb_model.specs.declared.kind.Kind.TheVariants as kind
use Rattle.nb_model.specs.declared.cell.Cell.{Cell}
use Rattle.nb_model.specs.declared.notebook.Notebook.{Notebook}
use Rattle.nb_model.specs.Planned.{code}
use Rattle.report_text.specs.Rows.{rows, text_of_rows}

-- what a script has of a cell: its kind, and its source as rows
pub record Part : Type 0 where
  pub kind : Kind
  pub rows : List (List ℕ)

-- the first row of every script
abbrev pub head_row : List ℕ
head_row = codes "# nbrun script"

-- the row that begins a cell of this kind
abbrev pub marker : Kind → List ℕ
marker kind.Raw = codes "# %% [raw]"
marker kind.Markdown = codes "# %% [markdown]"
marker kind.Code = codes "# %%"

-- what stands before each row of source: nothing in a code cell, else a number sign and a space
abbrev pub row_front : Kind → List ℕ
row_front kind.Raw = codes "# "
row_front kind.Markdown = codes "# "
row_front kind.Code = []

-- the rows of a cell in a script: an empty one, the marker, and those of its source
abbrev pub part_rows : Part → List (List ℕ)
part_rows p = [] ∷ marker p.kind ∷ map (λ row. row_front p.kind ++ row) p.rows

-- the rows of a script with these parts
abbrev pub script_rows : List Part → List (List ℕ)
script_rows ps = head_row ∷ flat_map part_rows ps

-- what a script has of this cell
abbrev pub part_of : Cell → Part
part_of c = record { kind = c.kind; rows = rows (code c) }

-- what a script has of this notebook
abbrev pub parts_of : Notebook → List Part
parts_of n = map part_of n.cells

-- a cell in a script
abbrev pub cell_text : Cell → List ℕ
cell_text c = text_of_rows (part_rows (part_of c))

-- a notebook as a script
abbrev pub script : Notebook → List ℕ
script n = text_of_rows (script_rows (parts_of n))
