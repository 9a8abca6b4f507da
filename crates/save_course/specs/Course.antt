-- What a run makes of its output: save after save, and between them calls that leave it alone (Papermill and nbclient save
-- after each cell). A journal has its newest entry first.
use Rattle.std.specs.Prelude.{◌≡◌, ℕ, ◌+◌, ◌≤◌, List, [], ◌∷◌, map, length, Bool, true, false, Option, Result, Ok, Err}
use Rattle.std.specs.List.{AllByRecursion}
use Rattle.nb_model.specs.declared.notebook.Notebook.{Notebook}
use Rattle.out_fold.specs.declared.used.Used.{Used}
use Rattle.out_fold.specs.Fit.{AreRead}
use Rattle.world.specs.declared.entry.Entry.{Entry}
use Rattle.world.specs.Acked.{is_renamed}
use Rattle.world.specs.Moments.{Since}
use Rattle.world.specs.Touched.{touches}
use Rattle.save_disk.specs.declared.save_fault.SaveFault.{SaveFault}
use Rattle.save_disk.specs.Entries.{SaveOf}
use Rattle.save_disk.specs.Places.{save_count}
use Rattle.world.specs.Save.{temporary_of}
use Rattle.progress_save.specs.declared.progress_fault.ProgressFault.{ProgressFault}
use Rattle.progress_save.specs.declared.progress_fault.ProgressFault.TheVariants as fault
use Rattle.progress_save.specs.Prefix.{prefix}
use Rattle.progress_save.specs.Safe.{IsSafe, IsHeld}
use Rattle.progress_save.specs.Saved.{done, failure}
use Rattle.nb_text.specs.Notebooks.{text_of}

-- a save: the messages that were used for the requests until then, how many cells it settles, and the cell at which the run
-- stopped
pub record PrefixSave : Type 0 where
  pub us : List Used
  pub settled : ℕ
  pub stop : Option ℕ

-- the text of that prefix of a notebook; `merge` joins neighbouring streams of one name
abbrev pub prefix_text : Bool → Notebook → PrefixSave → List ℕ
prefix_text merge first s = text_of (prefix merge s.us s.settled s.stop first)

-- The output is saved again and again, with the text of a prefix of the notebook each time, which settles at least as many
-- cells as the one before; so far it was `settled`, and at first `from`. `is_open` as long as no save has failed, after which
-- none is made. Other calls don't touch it, and acknowledge no save of it.
pub data Course (output : List ℕ) (merge : Bool) (first : Notebook) (from : ℕ) (before : List Entry) : Bool → ℕ → List Entry → Type 0 where
  begins : Course output merge first from before true from before
  passes : {is_open : Bool} {settled : ℕ} {entry : Entry} {past : List Entry} → Course output merge first from before is_open settled past
      → touches output entry ≡ false → save_count output (entry ∷ past) ≡ save_count output past
      → Course output merge first from before is_open settled (entry ∷ past)
  saves : {settled : ℕ} {past after : List Entry} (s : PrefixSave) → Course output merge first from before true settled past → settled ≤ s.settled
      → AreRead s.us → SaveOf output (prefix_text merge first s) done past after → Course output merge first from before true s.settled after
  fails : {settled : ℕ} {past after : List Entry} (s : PrefixSave) (f : SaveFault) → Course output merge first from before true settled past
      → settled ≤ s.settled → AreRead s.us → SaveOf output (prefix_text merge first s) (failure f) past after
      → Course output merge first from before false s.settled after

-- each save settles at least as many cells as the one before, and the first at least so many
abbrev pub Rises : ℕ → List PrefixSave → Type 0
Rises from [] = Unit {0}
Rises from (s ∷ rest) = (from ≤ s.settled) × Rises s.settled rest

-- These texts were saved one after another. At each moment a crash leaves at the output the one that was acknowledged last,
-- or the next one; and just the last of all as long as no save has failed.
pub record IsSavedAs (output : List ℕ) (texts : List (List ℕ)) (is_open : Bool) (before after : List Entry) : Type 0 where
  pub moments : Since (IsSafe output texts) before after
  pub end : IsSafe output texts after
  pub held : is_open ≡ true → IsHeld output texts after
  pub whole : is_open ≡ true → save_count output after ≡ length texts
  pub but_one : is_open ≡ false → save_count output after + 1 ≡ length texts

-- the output was saved by the texts of some prefixes, which settle more and more cells by messages whose contents were read
pub record IsSavedSo (output : List ℕ) (merge : Bool) (first : Notebook) (from : ℕ) (is_open : Bool) (before after : List Entry) : Type 0 where
  pub saves : List PrefixSave
  pub rising : Rises from saves
  pub read : AllByRecursion (λ (s : PrefixSave). AreRead s.us) saves
  pub so : IsSavedAs output (map (prefix_text merge first) saves) is_open before after

-- no rename onto the output waits for the sync of its folder, which would acknowledge a save
abbrev pub IsRested : List ℕ → List Entry → Type 0
IsRested output journal = is_renamed (temporary_of output) output journal ≡ false

-- whether a save may follow one with this answer
abbrev pub open_after : {U : Type 0} → Result U ProgressFault → Bool
open_after (Ok u) = true
open_after (Err (fault.Save f)) = false
-- no call was made
open_after (Err fault.Closed) = true
open_after (Err fault.NoMemory) = true

-- how many cells are settled after one with this answer
abbrev pub settled_after : {U : Type 0} → Result U ProgressFault → ℕ → ℕ → ℕ
settled_after (Ok u) was now = now
settled_after (Err (fault.Save f)) was now = now
settled_after (Err fault.Closed) was now = was
settled_after (Err fault.NoMemory) was now = was
