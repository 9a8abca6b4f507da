-- What a run asks of the disk before it ends, cause by cause. A journal has its newest entry first.
use Rattle.std.specs.Prelude.{◌≡◌, ℕ, ◌≤◌, List, [], ◌∷◌, ◌++◌, length, Some, Ok, Err}
use Rattle.nb_model.specs.declared.notebook.Notebook.{Notebook}
use Rattle.words.specs.declared.ask.Ask.{Ask}
use Rattle.words.specs.declared.usage.Usage.{Usage}
use Rattle.words.specs.Refusals.{refusal}
use Rattle.world.specs.declared.entry.Entry.{Entry}
use Rattle.world.specs.declared.entry.Entry.TheVariants.{Read}
use Rattle.world.specs.declared.read_file.ReadFile.{ReadFile}
use Rattle.world.specs.declared.read_file.ReadFile.TheVariants as found
use Rattle.world.specs.declared.left.Left.TheVariants as left
use Rattle.world.specs.Disk.{leaves}
use Rattle.world.specs.Moments.{upto}
use Rattle.nb_text.specs.Notebooks.{text_of}
use Rattle.nbrun_top.specs.declared.end.End.{End}
use Rattle.nbrun_top.specs.declared.end.End.TheVariants as end
use Rattle.save_disk.specs.declared.save_fault.SaveFault.{SaveFault}
use Rattle.save_disk.specs.Entries.{SaveOf}
use Rattle.world.specs.Save.{temporary_of}
use Rattle.nbrun_top.specs.Asked.{IsJob}
use Rattle.nb_load.specs.declared.load_fault.LoadFault.{LoadFault}
use Rattle.nb_load.specs.Loaded.{Accepts, Refuses}
use Rattle.nbrun_top.specs.Codes.{end_of}

-- the journal after the read of the input, of which at most 32 MiB are read
abbrev pub read_of : Ask → ReadFile → List Entry → List Entry
read_of a answer before = Read a.input 33554432 answer ∷ before

-- a save of the notebook: the run ends so, and asks that of the disk
pub data SavesAs (output : List ℕ) (n : Notebook) (before : List Entry) : End → List Entry → Type 0 where
  not_saved : (why : SaveFault) (after : List Entry) → SaveOf {U = Unit {0}} output (text_of n) (Err why) before after → SavesAs output n before (end.NotSaved why) after
  done : (after : List Entry) → SaveOf {U = Unit {0}} output (text_of n) (Ok tt) before after → SavesAs output n before (end.Done (length n.cells)) after
  -- memory was refused before anything was written
  not_made : SavesAs output n before end.NoMemory before

-- a job that prepares its notebook: it ends so, and asks that of the disk
pub data Prepares (a : Ask) (before : List Entry) : End → List Entry → Type 0 where
  cannot_read : Prepares a before end.NotRead (read_of a found.Failed before)
  too_large : Prepares a before end.TooLarge (read_of a found.Big before)
  not_accepted : (bytes : List ℕ) (f : LoadFault) → Refuses a bytes f → Prepares a before (end_of f) (read_of a (found.Whole bytes) before)
  saves : (bytes : List ℕ) (n : Notebook) (e : End) (after : List Entry) → Accepts a bytes n → SavesAs a.output n (read_of a (found.Whole bytes) before) e after
      → Prepares a before e after
  -- memory was refused before anything was written
  no_memory_later : (answer : ReadFile) → Prepares a before end.NoMemory (read_of a answer before)

-- a run: where the words are refused, nothing is asked of the disk
pub data Ran (words : List (List ℕ)) (before : List Entry) : End → List Entry → Type 0 where
  refused : (u : Usage) → refusal words ≡ Some u → Ran words before (end.Refused u) before
  job : (a : Ask) (e : End) (after : List Entry) → IsJob words a → Prepares a before e after → Ran words before e after
  no_memory : Ran words before end.NoMemory before

-- the input was read as bytes that give a notebook, and a crash leaves at the output that notebook with its parameters, printed, and nothing else
pub record IsDelivered (words : List (List ℕ)) (journal : List Entry) : Type 0 where
  pub ask : Ask
  pub job : IsJob words ask
  pub bytes : List ℕ
  pub notebook : Notebook
  pub later : List Entry
  pub was_read : journal ≡ later ++ read_of ask (found.Whole bytes) []
  pub accepted : Accepts ask bytes notebook
  pub leaves_text : leaves journal ask.output ≡ left.Whole (text_of notebook) ∷ []

-- at every moment a crash leaves the path as it was
abbrev pub IsUntouched : List ℕ → List Entry → Type 0
IsUntouched path journal = (t : ℕ) → t ≤ length journal → leaves (upto t journal) path ≡ left.Old ∷ []

-- no job that the words ask for writes to this path: neither is it its output nor the temporary file beside that
abbrev pub IsOther : List (List ℕ) → List ℕ → Type 0
IsOther words path = (a : Ask) → IsJob words a → (a.output ≡ path → ⊥) × (temporary_of a.output ≡ path → ⊥)
