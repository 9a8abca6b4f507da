-- Bookkeeping: what a fold holds, and which lists of messages it stands for.
use Rattle.std.specs.Prelude.{◌≡◌, ℕ, ◌+◌, ◌<◌, ◌≤◌, ◌==◌, Bool, false, List, [], ◌∷◌, ◌++◌, ◌&&◌, ◌||◌, not, map, length, slice_index_or, Option, Some, None, if◌then◌else◌}
use Rattle.std.specs.List.{list_any}
use Rattle.std.specs.Option.{option_or}
use Rattle.std.specs.BTreeMap.{get_by_text}
use Rattle.jtext.specs.declared.json.Json.TheVariants as json
use Rattle.jcontent.specs.declared.content.Content.{Content}
use Rattle.jcontent.specs.declared.content.Content.TheVariants as content
use Rattle.jcontent.specs.declared.shown.Shown.{Shown}
use Rattle.out_fold.specs.declared.latest.Data.{Data}
use Rattle.out_fold.specs.declared.latest.Latest.{Latest}
use Rattle.out_fold.specs.declared.folded.Folded.{Folded}
use Rattle.out_fold.specs.declared.folds.Folds.{Folds}
use Rattle.out_fold.specs.Live.{appends, clears_now, clears_later, live}
use Rattle.out_fold.specs.Shown.{shows, latest}
use Rattle.out_fold.specs.Cells.{Used, contents, all_contents, count_in, last_count, says_busy, says_idle, is_input, last_date}

-- ---- an output

-- without its data, where it has a display id
abbrev pub without_data : Option (List ℕ) → Shown → Shown
without_data None s = s
without_data (Some id) s = record { bundle = []; metadata = json.Null; id = Some id }

-- an output as it is held: the data of a display id are held once
abbrev pub held_output : Content → Content
held_output (content.Display s) = content.Display (without_data s.id s)
held_output (content.Outcome s count) = content.Outcome (without_data s.id s) count
held_output c = c

-- ---- a cell

-- after it no clear waits
abbrev pub ends_wait : Content → Bool
ends_wait c = appends c || clears_now c

-- a clear waits after these
abbrev pub waits : List Content → Bool
waits [] = false
waits (c ∷ rest) = waits rest || (clears_later c && not (list_any ends_wait rest))

-- what is held of the messages of a request
abbrev pub fold_of : Used → Folded
fold_of u = record {
  outputs = map held_output (live (contents u));
  waits = waits (contents u);
  count = last_count None (contents u);
  input = last_date is_input None u.own;
  busy = last_date says_busy None u.own;
  idle = last_date says_idle None u.own;
  reply = u.reply;
}

-- what is held where nothing was used
abbrev pub nothing : Folded
nothing = record { outputs = []; waits = false; count = None; input = None; busy = None; idle = None; reply = None }

-- what is held of the messages of the cell
abbrev pub folded_at : List Used → ℕ → Folded
folded_at [] cell = nothing
folded_at (u ∷ us) cell = if u.cell == cell then fold_of u else folded_at us cell

-- ---- one more message

-- the outputs that are held after one more message
abbrev pub next_outputs : Folded → Content → List Content
next_outputs f c = if clears_now c then [] else if appends c then (if f.waits then [] else f.outputs) ++ held_output c ∷ [] else f.outputs

-- what is held of a cell after one more message
abbrev pub step : Folded → Content → Option (List ℕ) → Folded
step f c date = record {
  outputs = next_outputs f c;
  waits = (if ends_wait c then false else f.waits || clears_later c);
  count = option_or (count_in c) f.count;
  input = (if is_input c then date else f.input);
  busy = (if says_busy c then date else f.busy);
  idle = (if says_idle c then date else f.idle);
  reply = f.reply;
}

-- ---- the fold

-- what is known of a display id
abbrev pub data_of : Latest → List ℕ → Option Data
data_of l id = get_by_text l.data id

-- how many cells the notebook has
abbrev pub cells_of : Folds → ℕ
cells_of f = length f.cells

-- whether neighbouring streams are joined
abbrev pub merge_of : Folds → Bool
merge_of f = f.merge

-- the least cell that may begin: one above the current one, and 0 where none is current
abbrev pub next_of : Folds → ℕ
next_of f = f.next

-- what is held of a cell
abbrev pub held_at : Folds → ℕ → Folded
held_at f cell = if (cell + 1) == f.next then f.current else slice_index_or f.cells cell nothing

-- the cells increase from the first number on, and the second is one above the last
abbrev pub Ordered : ℕ → List Used → ℕ → Type 0
Ordered low [] next = low ≡ next
Ordered low (u ∷ us) next = (low ≤ u.cell) × Ordered (u.cell + 1) us next

-- the fold has been given these messages, for the requests of these cells
pub record Holds (f : Folds) (us : List Used) : Type 0 where
  pub order : Ordered 0 us f.next
  pub cells : (cell : ℕ) → cell < length f.cells → held_at f cell ≡ folded_at us cell
  pub latest : (id : List ℕ) (d : Data) → latest id None (all_contents us) ≡ Some d → data_of f.latest id ≡ Some d

-- ---- what a call does

-- both folds join streams alike, and the same cells may begin in both
pub record IsSameShape (f f' : Folds) : Type 0 where
  pub merge : f'.merge ≡ f.merge
  pub next : f'.next ≡ f.next
  pub len : length f'.cells ≡ length f.cells

-- what was known still is
abbrev pub Keeps : Latest → Latest → Type 0
Keeps l l' = (id : List ℕ) (d : Data) → data_of l id ≡ Some d → data_of l' id ≡ Some d

-- what a message shows is known, and what was known of other display ids still is
abbrev pub Learns : Latest → Latest → Content → Type 0
Learns l l' c = (id : List ℕ) (d : Data) → option_or (shows id c) (data_of l id) ≡ Some d → data_of l' id ≡ Some d

-- a message was taken
pub record Took (f f' : Folds) (c : Content) (date : Option (List ℕ)) : Type 0 where
  pub merge : f'.merge ≡ f.merge
  pub next : f'.next ≡ f.next
  pub cells : f'.cells ≡ f.cells
  pub current : f'.current ≡ step f.current c date
  pub learns : Learns f.latest f'.latest c

-- no message was taken
pub record Kept (f f' : Folds) : Type 0 where
  pub merge : f'.merge ≡ f.merge
  pub next : f'.next ≡ f.next
  pub cells : f'.cells ≡ f.cells
  pub current : f'.current ≡ f.current
  pub keeps : Keeps f.latest f'.latest
