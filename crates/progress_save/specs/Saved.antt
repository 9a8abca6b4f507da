-- What a save of a prefix adds to the journal, its newest entry first, and what it makes of the output.
use Rattle.std.specs.Prelude.{◌≡◌, ◌⊎◌, ℕ, ◌+◌, List, length, Result, Ok, Err}
use Rattle.jtext.specs.declared.json.Json.{Json}
use Rattle.jtext.specs.Keyed.{Keyed}
use Rattle.jtext.specs.Sorting.{sort_tree}
use Rattle.nb_model.specs.declared.notebook.Notebook.{Notebook}
use Rattle.nb_model.specs.Tree.{notebook_tree}
use Rattle.nb_model.specs.Valid.{Valid}
use Rattle.world.specs.declared.entry.Entry.{Entry}
use Rattle.world.specs.Counts.{Counts, HasCause}
use Rattle.world.specs.Disk.{Place, place}
use Rattle.world.specs.Parts.{IsOf, OnDisk, OnSay}
use Rattle.said_lines.specs.Lines.{saved_line}
use Rattle.said_lines.specs.Speech.{Says}
use Rattle.save_disk.specs.Entries.{SaveOf}
use Rattle.save_disk.specs.Places.{save_count, durable_place, place_after}
use Rattle.save_disk.specs.declared.save_fault.SaveFault.{SaveFault}
use Rattle.progress_save.specs.declared.progress_fault.ProgressFault.{ProgressFault}
use Rattle.progress_save.specs.declared.progress_fault.ProgressFault.TheVariants as fault

-- what may be read of a notebook's text: a valid notebook without a key twice, the same tree with its pairs sorted
pub record IsReadOf (n : Notebook) (t : Json) : Type 0 where
  pub valid : Valid t
  pub keyed : Keyed t
  pub same : t ≡ sort_tree (notebook_tree n)

-- the line of an acknowledged save that settles so many of the notebook's cells
abbrev pub line_of : List ℕ → ℕ → Notebook → List ℕ
line_of output settled n = saved_line output settled (length n.cells)

-- what one save of the disk answers
abbrev pub SaveAnswer : Type 0
SaveAnswer = Result (Unit {0}) SaveFault

-- the save was done
abbrev pub done : SaveAnswer
done = Ok tt

-- the save failed at this step
abbrev pub failure : SaveFault → SaveAnswer
failure f = Err f

-- the text was saved and acknowledged, and then the line was said
pub record SavesThenSays (output text line : List ℕ) (failed : Type 0) (before after : List Entry) : Type 0 where
  pub past : List Entry
  pub saves : SaveOf output text done before past
  pub says : Says line failed past after

-- the text was saved and the line said, or the save failed and nothing was
abbrev pub SavesAndSays : List ℕ → List ℕ → List ℕ → Type 0 → SaveAnswer → List Entry → List Entry → Type 0
SavesAndSays output text line failed (Ok u) before after = SavesThenSays output text line failed before after
SavesAndSays output text line failed (Err f) before after = SaveOf output text (failure f) before after

-- the entries of a save of this text with this line, by its answer
abbrev pub SavesAs : {U : Type 0} → List ℕ → List ℕ → List ℕ → Type 0 → Result U ProgressFault → List Entry → List Entry → Type 0
SavesAs output text line failed (Ok u) before after = SavesThenSays output text line failed before after
SavesAs output text line failed (Err (fault.Save f)) before after = SaveOf output text (failure f) before after
-- no call is made
SavesAs output text line failed (Err fault.Closed) before after = after ≡ before
SavesAs output text line failed (Err fault.NoMemory) before after = after ≡ before

-- the entries where a say has failed before: nothing is said
abbrev pub SavesSilently : {U : Type 0} → List ℕ → List ℕ → Result U ProgressFault → List Entry → List Entry → Type 0
SavesSilently output text (Ok u) before after = SaveOf output text done before after
SavesSilently output text (Err (fault.Save f)) before after = SaveOf output text (failure f) before after
SavesSilently output text (Err fault.Closed) before after = after ≡ before
SavesSilently output text (Err fault.NoMemory) before after = after ≡ before

-- the place of the output after a save of this text with this answer
abbrev pub place_by : {U : Type 0} → List ℕ → Result U ProgressFault → Place → Place
place_by text (Ok u) was = durable_place text
place_by text (Err (fault.Save f)) was = place_after text (failure f) was
place_by text (Err fault.Closed) was = was
place_by text (Err fault.NoMemory) was = was

-- how many saves are acknowledged after one with this answer: one more exactly after Ok
abbrev pub count_by : {U : Type 0} → Result U ProgressFault → ℕ → ℕ
count_by (Ok u) n = n + 1
count_by (Err e) n = n

-- what has come of the output in the end
pub record EndsAs {U : Type 0} (output text : List ℕ) (result : Result U ProgressFault) (before after : List Entry) : Type 0 where
  pub place_is : place after output ≡ place_by text result (place before output)
  pub count_is : save_count output after ≡ count_by result (save_count output before)

-- the newest entry is of the disk, or is said
abbrev pub IsOfSave : List Entry → Type 0
IsOfSave now = IsOf OnDisk now ⊎ IsOf OnSay now

-- the fact holds where the save was refused before any call
abbrev pub OnRefusal : {U : Type 0} → Result U ProgressFault → Type 0 → Type 0
OnRefusal (Ok u) same = Unit {0}
OnRefusal (Err (fault.Save f)) same = Unit {0}
OnRefusal (Err fault.Closed) same = same
OnRefusal (Err fault.NoMemory) same = same

-- a call of the disk failed
abbrev pub IsSaveFault : {U : Type 0} → Result U ProgressFault → Type 0
IsSaveFault (Ok u) = ⊥
IsSaveFault (Err (fault.Save f)) = Unit {0}
IsSaveFault (Err fault.Closed) = ⊥
IsSaveFault (Err fault.NoMemory) = ⊥

-- only the counts of the disk and of what is said may have changed, and failure comes only where the disk's rose
pub record SaveCause (old new : Counts) (failed : Type 0) : Type 0 where
  pub others : new ≡ record old { disk = new.disk; say = new.say }
  pub disk : HasCause old.disk new.disk failed
  pub say : HasCause old.say new.say ⊥
