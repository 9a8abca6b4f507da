-- What a report asks of the disk before it ends, cause by cause. A journal has its newest entry first.
use Rattle.std.specs.Prelude.{◌≡◌, ◌⊎◌, ℕ, ◌≤◌, List, [], ◌∷◌, ◌++◌, length, Some, Ok, Err}
use Rattle.words.specs.declared.usage.Usage.{Usage}
use Rattle.world.specs.declared.entry.Entry.{Entry}
use Rattle.world.specs.declared.entry.Entry.TheVariants.{Read}
use Rattle.world.specs.declared.left.Left.{Left}
use Rattle.world.specs.declared.left.Left.TheVariants as left
use Rattle.world.specs.declared.read_file.ReadFile.{ReadFile}
use Rattle.world.specs.declared.read_file.ReadFile.TheVariants as found
use Rattle.world.specs.Disk.{leaves, Among}
use Rattle.world.specs.Moments.{upto}
use Rattle.world.specs.Save.{temporary_of}
use Rattle.save_disk.specs.declared.save_fault.SaveFault.{SaveFault}
use Rattle.save_disk.specs.Entries.{SaveOf}
use Rattle.report_run.specs.declared.end.End.{End}
use Rattle.report_run.specs.declared.end.End.TheVariants as end
use Rattle.report_run.specs.declared.request.Request.{Request}
use Rattle.report_run.specs.Made.{Gives, CannotMake}
use Rattle.report_run.specs.Words.{refusal, IsRequest}

-- the journal after the read of the input, of which at most 32 MiB are read
abbrev pub read_of : Request → ReadFile → List Entry → List Entry
read_of r answer before = Read r.input 33554432 answer ∷ before

-- a save of the text: the report ends so, and asks that of the disk
pub data SavesAs (output text : List ℕ) (before : List Entry) : End → List Entry → Type 0 where
  not_saved : (why : SaveFault) (after : List Entry) → SaveOf {U = Unit {0}} output text (Err why) before after
      → SavesAs output text before (end.NotSaved why) after
  done : (after : List Entry) → SaveOf {U = Unit {0}} output text (Ok tt) before after
      → SavesAs output text before end.Done after
  -- memory was refused before anything was written
  not_made : SavesAs output text before end.NoMemory before

-- a report that is asked for: it ends so, and asks that of the disk
pub data Makes (r : Request) (before : List Entry) : End → List Entry → Type 0 where
  cannot_read : Makes r before end.NotRead (read_of r found.Failed before)
  too_large : Makes r before end.TooLarge (read_of r found.Big before)
  cannot_make : (bytes : List ℕ) (e : End) → CannotMake r.form bytes e
      → Makes r before e (read_of r (found.Whole bytes) before)
  saves : (bytes text : List ℕ) (e : End) (after : List Entry) → Gives r.form bytes text
      → SavesAs r.output text (read_of r (found.Whole bytes) before) e after → Makes r before e after
  -- memory was refused before anything was written
  no_memory_later : (answer : ReadFile) → Makes r before end.NoMemory (read_of r answer before)

-- a report: where the words are refused, nothing is asked of the disk
pub data Ran (words : List (List ℕ)) (before : List Entry) : End → List Entry → Type 0 where
  refused : (u : Usage) → refusal words ≡ Some u → Ran words before (end.Refused u) before
  request : (r : Request) (e : End) (after : List Entry) → IsRequest words r → Makes r before e after
      → Ran words before e after
  no_memory : Ran words before end.NoMemory before

-- the report began with the read of its input, and this is the text that it makes of the bytes
pub record IsTextOf (r : Request) (journal : List Entry) (text : List ℕ) : Type 0 where
  pub bytes : List ℕ
  pub later : List Entry
  pub was_read : journal ≡ later ++ read_of r (found.Whole bytes) []
  pub gives : Gives r.form bytes text

-- a crash leaves at the output the text that the report makes of its input, and nothing else
pub record IsDelivered (words : List (List ℕ)) (journal : List Entry) : Type 0 where
  pub request : Request
  pub asked : IsRequest words request
  pub text : List ℕ
  pub made : IsTextOf request journal text
  pub leaves_text : leaves journal request.output ≡ left.Whole text ∷ []

-- at every moment a crash leaves at the output what was there before, or the whole text, and nothing else
abbrev pub IsSafe : Request → List Entry → Type 0
IsSafe r journal = (t : ℕ) → t ≤ length journal → (o : Left) → Among o (leaves (upto t journal) r.output)
    → (o ≡ left.Old) ⊎ ((text : List ℕ) × IsTextOf r journal text × (o ≡ left.Whole text))

-- at every moment a crash leaves the path as it was
abbrev pub IsUntouched : List ℕ → List Entry → Type 0
IsUntouched path journal = (t : ℕ) → t ≤ length journal → leaves (upto t journal) path ≡ left.Old ∷ []

-- the report doesn't write to this path: neither is it its output nor the temporary file beside that
abbrev pub IsOther : List (List ℕ) → List ℕ → Type 0
IsOther words path = (r : Request) → IsRequest words r
    → (r.output ≡ path → ⊥) × (temporary_of r.output ≡ path → ⊥)
