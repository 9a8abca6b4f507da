-- A script that is read row by row: the cells that the rows which are left can make of a draft.
use Rattle.std.specs.Prelude.{◌≡◌, ℕ, ◌+◌, List, [], ◌∷◌, ◌++◌, map, flat_map, length}
use Rattle.jtext.specs.declared.json.Json.{Json}
use Rattle.nb_model.specs.declared.kind.Kind.{Kind}
use Rattle.nb_model.specs.declared.kind.Kind.TheVariants as kind
use Rattle.nb_model.specs.declared.cell.Cell.{Cell}
use Rattle.report_text.specs.declared.place.Place.{Place}
use Rattle.report_text.specs.declared.place.Place.TheVariants as place
use Rattle.report_text.specs.declared.draft.Draft.{Draft}
use Rattle.report_text.specs.declared.script_fault.ScriptFault.{ScriptFault}
use Rattle.report_text.specs.declared.script_fault.ScriptFault.TheVariants as fault
use Rattle.report_text.specs.Script.{Part, head_row, marker, row_front, part_rows}
use Rattle.report_text.specs.Reading.{CanHold, CanHoldAll, IsScriptOf, IsRefusedAt, row_string, cell_of, cells_read}

-- the rows are those of parts, whose cells after these make `all`
pub record Adds (cells : List Cell) (rs : List (List ℕ)) (all : List Cell) : Type 0 where
  pub parts : List Part
  pub rows : rs ≡ flat_map part_rows parts
  pub held : CanHoldAll parts
  pub all_cells : all ≡ cells ++ cells_read (length cells) parts

-- the rows are the rest of the source of a cell of this kind and then those of parts, which makes `all`
pub record Ends (k : Kind) (strings : List Json) (cells : List Cell) (rs : List (List ℕ)) (all : List Cell)
    : Type 0 where
  pub own : List (List ℕ)
  pub parts : List Part
  pub rows : rs ≡ map (λ row. row_front k ++ row) own ++ flat_map part_rows parts
  pub own_held : CanHold k own
  pub held : CanHoldAll parts
  pub all_cells : all ≡ cells ++ cell_of (length cells) k (strings ++ map row_string own)
      ∷ cells_read (length cells + 1) parts

-- at this place, the rows make these cells of the draft
abbrev pub MakesAt : Place → Draft → List (List ℕ) → List Cell → Type 0
MakesAt place.Start d rs all = (rest : List (List ℕ)) × (rs ≡ head_row ∷ rest) × Adds d.cells rest all
MakesAt place.Between d rs all = Adds d.cells rs all
MakesAt place.Gap d rs all = Adds d.cells ([] ∷ rs) all
MakesAt place.Raw d rs all = Ends kind.Raw d.source d.cells rs all
MakesAt place.Markdown d rs all = Ends kind.Markdown d.source d.cells rs all
MakesAt place.Code d rs all = Ends kind.Code d.source d.cells rs all
MakesAt place.Blank d rs all = Ends kind.Code d.source d.cells ([] ∷ rs) all

-- the rows make these cells of the draft
abbrev pub Makes : Draft → List (List ℕ) → List Cell → Type 0
Makes d rs all = MakesAt d.place d rs all

-- whatever follows the row makes the same cells of the old draft with it and of the new draft without it
pub record Takes (old : Draft) (row : List ℕ) (new : Draft) : Type 0 where
  pub with_row : (rs : List (List ℕ)) (all : List Cell) → Makes new rs all → Makes old (row ∷ rs) all
  pub without : (rs : List (List ℕ)) (all : List Cell) → Makes old (row ∷ rs) all → Makes new rs all

-- nothing that follows the row makes cells of the draft
abbrev pub CannotTake : Draft → List ℕ → Type 0
CannotTake d row = (rs : List (List ℕ)) (all : List Cell) → Makes d (row ∷ rs) all → ⊥

-- nothing is made of the draft where no row follows
abbrev pub MakesNothing : Draft → Type 0
MakesNothing d = (all : List Cell) → Makes d [] all → ⊥

-- ---- steps

-- the place in the source of a cell of this kind
abbrev pub source_place : Kind → Place
source_place kind.Raw = place.Raw
source_place kind.Markdown = place.Markdown
source_place kind.Code = place.Code

-- the row begins no cell
abbrev pub IsNoMarker : List ℕ → Type 0
IsNoMarker row = (k : Kind) → row ≡ marker k → ⊥

-- the row begins a cell of this kind, in the source of which the new draft is
pub record Begins (old : Draft) (row : List ℕ) (new : Draft) : Type 0 where
  pub kind : Kind
  pub marker : row ≡ marker kind
  pub is : new ≡ record { cells = old.cells; source = []; place = source_place kind }

-- the draft with one row of source more
abbrev pub with_row : List ℕ → Draft → Draft
with_row row d = record d { source = d.source ++ row_string row ∷ [] }

-- the draft with its source in a cell of this kind
abbrev pub closed : Kind → Draft → Draft
closed k d = record { cells = d.cells ++ cell_of (length d.cells) k d.source ∷ []; source = []; place = d.place }

-- ---- the whole

-- the rows are a script, of which these cells are read
abbrev pub AreReadOf : List (List ℕ) → List Cell → Type 0
AreReadOf rs cells = (ps : List Part) × IsScriptOf rs ps × (cells ≡ cells_read 0 ps)

-- a refusal is the place where the rows are no script, but for want of memory
abbrev pub RefusesRows : List (List ℕ) → ScriptFault → Type 0
RefusesRows rs (fault.Line number) = IsRefusedAt rs number
RefusesRows rs fault.NoMemory = Unit {0}
