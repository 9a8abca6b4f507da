-- A prefix of a run, as it is saved: the cells before an index are settled, the others wait (Papermill, `metadata.papermill`;
-- nbformat 4.5, `code_cell`; nbclient, `metadata.execution`).
use Rattle.std.specs.Prelude.{◌≡◌, ◌⊎◌, ◌<◌, ℕ, ◌==◌, nat_lt, slice_get, Bool, true, false, List, map, codes, Option, Some, None, if◌then◌else◌}
use Rattle.std.specs.List.{enumerate_from}
use Rattle.jtext.specs.declared.json.Json.{Json}
use Rattle.jtext.specs.declared.json.Json.TheVariants as json
use Rattle.jtext.specs.Edit.{set_field, set_within}
use Rattle.nb_model.specs.declared.cell.Cell.{Cell}
use Rattle.nb_model.specs.declared.notebook.Notebook.{Notebook}
use Rattle.nb_model.specs.Planned.{is_planned}
use Rattle.out_fold.specs.declared.used.Used.{Used}
use Rattle.out_fold.specs.Cells.{outputs_of, count_of, dates_of}
use Rattle.out_fold.specs.Plans.{is_in}

-- the metadata of a cell with this status, and whether it failed, under `papermill`; all else in it stays
abbrev pub with_status : List ℕ → Bool → Json → Json
with_status status failed m =
    set_within (codes "papermill") (codes "status") (json.Str status) (set_within (codes "papermill") (codes "exception") (json.Bool failed) m)

-- the metadata of a settled cell: it failed where the run stopped at it, and is completed otherwise
abbrev pub with_mark : Bool → Json → Json
with_mark true m = with_status (codes "failed") true m
with_mark false m = with_status (codes "completed") false m

-- the run stopped at this cell
abbrev pub stops_at : Option ℕ → ℕ → Bool
stops_at None i = false
stops_at (Some s) i = s == i

-- an executed cell: the outputs and the count of its messages, and their dates as a new `metadata.execution`
abbrev pub executed_cell : Bool → List Used → ℕ → Cell → Cell
executed_cell merge us i c = record c {
  outputs = outputs_of merge us i;
  count = count_of us i;
  metadata = set_field (codes "execution") (json.Obj (dates_of us i)) c.metadata;
}

-- a cell of the plan, executed; another cell as it is
abbrev pub folded_cell : Bool → List Used → ℕ → Cell → Cell
folded_cell merge us i c = if is_planned c then executed_cell merge us i c else c

-- a cell with its mark
abbrev pub marked_cell : Bool → Cell → Cell
marked_cell stopped c = record c { metadata = with_mark stopped c.metadata }

-- the cell at this index, settled
abbrev pub settled_cell : Bool → List Used → Option ℕ → ℕ → Cell → Cell
settled_cell merge us stop i c = marked_cell (stops_at stop i) (folded_cell merge us i c)

-- the cell at this index in a save that settles so many
abbrev pub saved_cell : Bool → List Used → ℕ → Option ℕ → ℕ → Cell → Cell
saved_cell merge us settled stop i c = if nat_lt i settled then settled_cell merge us stop i c else c

-- the cells of a notebook in a save that settles so many
abbrev pub saved_cells : Bool → List Used → ℕ → Option ℕ → List Cell → List Cell
saved_cells merge us settled stop cs = map (λ q. saved_cell merge us settled stop q.0 q.1) (enumerate_from 0 cs)

-- the notebook's own metadata: an exception is on record where the run stopped at a cell
abbrev pub saved_metadata : Option ℕ → Json → Json
saved_metadata None m = m
saved_metadata (Some s) m = set_within (codes "papermill") (codes "exception") (json.Bool true) m

-- The notebook in a save that settles so many of its cells, by the messages that were used for their requests (`merge`
-- joins neighbouring streams of one name), where the run may have stopped at a cell. All else stays.
abbrev pub prefix : Bool → List Used → ℕ → Option ℕ → Notebook → Notebook
prefix merge us settled stop n = record {
  metadata = saved_metadata stop n.metadata;
  cells = saved_cells merge us settled stop n.cells;
}

-- The notebook on the way from an old one to a new one: each cell is the old or the new one at its index, and so is the
-- metadata.
pub record IsBetween (old new now : Notebook) : Type 0 where
  pub metadata : (now.metadata ≡ old.metadata) ⊎ (now.metadata ≡ new.metadata)
  pub cells : (i : ℕ) → (slice_get now.cells i ≡ slice_get old.cells i) ⊎ (slice_get now.cells i ≡ slice_get new.cells i)

-- What is to be saved of a cell whose index is below this one is in it already, unless it was touched since, or the run stopped at
-- it.
abbrev pub IsSettled : Bool → List Used → List ℕ → ℕ → Option ℕ → ℕ → Cell → Type 0
IsSettled merge us touched from stop i c = i < from → is_in touched i ≡ false → stops_at stop i ≡ false → settled_cell merge us stop i c ≡ c

-- so it is of all cells
abbrev pub AreSettled : Bool → List Used → List ℕ → ℕ → Option ℕ → List Cell → Type 0
AreSettled merge us touched from stop cs = (i : ℕ) (c : Cell) → slice_get cs i ≡ Some c → IsSettled merge us touched from stop i c
