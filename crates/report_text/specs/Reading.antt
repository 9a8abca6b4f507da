-- A script read back as a notebook, and where a text is no script.
use Rattle.std.specs.Prelude.{◌≡◌, ◌≤◌, ◌<◌, ◌⊎◌, ℕ, ◌+◌, List, [], ◌∷◌, ◌++◌, map, take, length, codes, None}
use Rattle.std.specs.List.{AllByRecursion}
use Rattle.std.specs.Fmt.{decimal}
use Rattle.std.specs.Str.{IsUtf8}
use Rattle.jtext.specs.declared.json.Json.{Json}
use Rattle.jtext.specs.declared.json.Json.TheVariants as json
use Rattle.nb_model.specs.declared.kind.Kind.{Kind}
use Rattle.nb_model.specs.declared.kind.Kind.TheVariants as kind
use Rattle.nb_model.specs.declared.cell.Cell.{Cell}
use Rattle.nb_model.specs.declared.notebook.Notebook.{Notebook}
use Rattle.report_text.specs.declared.script_fault.ScriptFault.{ScriptFault}
use Rattle.report_text.specs.declared.script_fault.ScriptFault.TheVariants as fault
use Rattle.report_text.specs.Rows.{rows, ended}
use Rattle.report_text.specs.Script.{Part, marker, script_rows}

-- none of these rows is empty and directly followed by a marker
abbrev pub IsUnbroken : List (List ℕ) → Type 0
IsUnbroken rs = (front back : List (List ℕ)) (k : Kind) → rs ≡ front ++ [] ∷ marker k ∷ back → ⊥

-- A script can hold these rows as the source of a cell of this kind: in a code cell an empty row directly
-- followed by a marker would begin another cell.
abbrev pub CanHold : Kind → List (List ℕ) → Type 0
CanHold kind.Raw rs = Unit {0}
CanHold kind.Markdown rs = Unit {0}
CanHold kind.Code rs = IsUnbroken rs

-- a script can hold the source of each of these parts
abbrev pub CanHoldAll : List Part → Type 0
CanHoldAll ps = AllByRecursion (λ p. CanHold p.kind p.rows) ps

-- the rows are those of a script, and these are its parts
pub record IsScriptOf (rs : List (List ℕ)) (ps : List Part) : Type 0 where
  pub rows : rs ≡ script_rows ps
  pub held : CanHoldAll ps

-- the rows are those of a script
abbrev pub IsScript : List (List ℕ) → Type 0
IsScript rs = (ps : List Part) × IsScriptOf rs ps

-- with the rows of some further text after them, these rows are those of a script
abbrev pub CanGoOn : List (List ℕ) → Type 0
CanGoOn rs = (more : List ℕ) × IsScript (rs ++ rows more)

-- The rows are no script, and this is the number, from 0, of the first row with which nothing that follows makes
-- them one. It is the number of rows where they end too early.
pub record IsRefusedAt (rs : List (List ℕ)) (at : ℕ) : Type 0 where
  pub no_script : IsScript rs → ⊥
  pub within : at ≤ length rs
  pub before : CanGoOn (take at rs)
  pub here : at < length rs → CanGoOn (take (at + 1) rs) → ⊥

-- the same of a text: the number is 0 where its bytes aren't UTF-8
abbrev pub IsNoScript : List ℕ → ℕ → Type 0
IsNoScript bytes at = ((IsUtf8 bytes → ⊥) × (at ≡ 0)) ⊎ (IsUtf8 bytes × IsRefusedAt (rows bytes) at)

-- a refusal is the place where the text is no script, but for want of memory
abbrev pub Refuses : List ℕ → ScriptFault → Type 0
Refuses bytes (fault.Line number) = IsNoScript bytes number
Refuses bytes fault.NoMemory = Unit {0}

-- a row of source as a string, with its line end
abbrev pub row_string : List ℕ → Json
row_string row = json.Str (ended row)

-- the cell with this number, from 0, of this kind and with these strings as its source
abbrev pub cell_of : ℕ → Kind → List Json → Cell
cell_of i k strings = record {
  kind = k;
  id = codes "cell-" ++ decimal i;
  metadata = json.Obj [];
  source = json.Arr strings;
  attachments = None;
  outputs = [];
  count = None;
}

-- the cell with this number that is read of a part
abbrev pub cell_read : ℕ → Part → Cell
cell_read i p = cell_of i p.kind (map row_string p.rows)

-- the cells that are read of these parts, numbered from i on
abbrev pub cells_read : ℕ → List Part → List Cell
cells_read i [] = []
cells_read i (p ∷ ps) = cell_read i p ∷ cells_read (i + 1) ps

-- the notebook that is read of these parts
abbrev pub notebook_read : List Part → Notebook
notebook_read ps = record { metadata = json.Obj []; cells = cells_read 0 ps }

-- the bytes are a script, and this is the notebook that is read of it
pub record IsReadOf (bytes : List ℕ) (n : Notebook) : Type 0 where
  pub parts : List Part
  pub text : IsUtf8 bytes
  pub script : IsScriptOf (rows bytes) parts
  pub same : n ≡ notebook_read parts
