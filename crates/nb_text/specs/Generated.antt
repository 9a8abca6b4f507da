-- Notebooks for rehearsing a kernel of the toy language: cells that print, show, update and give results in turn.
use Rattle.std.specs.Prelude.{ℕ, zero, suc, ◌+◌, ◌%◌, ◌==◌, if◌then◌else◌, List, [], ◌∷◌, ◌++◌, codes, None}
use Rattle.std.specs.Fmt.{decimal}
use Rattle.jtext.specs.declared.json.Json.{Json}
use Rattle.jtext.specs.declared.json.Json.TheVariants as json
use Rattle.nb_model.specs.declared.kind.Kind.TheVariants as kind
use Rattle.nb_model.specs.declared.cell.Cell.{Cell}
use Rattle.nb_model.specs.declared.notebook.Notebook.{Notebook}

-- what the cell with this index does
abbrev pub verb : ℕ → List ℕ
verb i =
    if i % 4 == 0 then codes "print "
    else if i % 4 == 1 then codes "show d "
    else if i % 4 == 2 then codes "update d "
    else codes "result "

-- the cell with this index
abbrev pub generated_cell : ℕ → Cell
generated_cell i = record {
  kind = kind.Code;
  id = codes "g" ++ decimal i;
  metadata = json.Obj [];
  source = json.Arr (json.Str (verb i ++ decimal i) ∷ []);
  attachments = None;
  outputs = [];
  count = None;
}

-- this number of generated cells, from this index on
abbrev pub cells_from : ℕ → ℕ → List Cell
cells_from i zero = []
cells_from i (suc n) = generated_cell i ∷ cells_from (i + 1) n

-- the kernel that runs them
abbrev pub kernelspec : Json
kernelspec =
    json.Obj ((codes "display_name", json.Str (codes "Toy")) ∷ (codes "name", json.Str (codes "toy")) ∷ [])

-- the metadata of the notebook
abbrev pub kernel : Json
kernel = json.Obj ((codes "kernelspec", kernelspec) ∷ [])

-- a notebook of so many cells
abbrev pub generated_notebook : ℕ → Notebook
generated_notebook n = record { metadata = kernel; cells = cells_from 0 n }
