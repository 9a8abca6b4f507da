-- What a job says, line by line, by the entries of a journal, its newest entry first.
use Rattle.std.specs.Prelude.{◌≡◌, ◌<◌, ◌≤◌, ◌==◌, ℕ, List, [], ◌∷◌, ◌++◌, length, Bool, true, Option, IfSome, take}
use Rattle.nb_model.specs.declared.notebook.Notebook.{Notebook}
use Rattle.out_fold.specs.declared.used.Used.{Used}
use Rattle.out_fold.specs.Fit.{AreRead}
use Rattle.words.specs.declared.ask.Ask.{Ask}
use Rattle.world.specs.declared.entry.Entry.{Entry}
use Rattle.world.specs.declared.entry.Entry.TheVariants as made
use Rattle.world.specs.declared.did.Did.{Did}
use Rattle.world.specs.declared.did.Did.TheVariants.{Done, Failed}
use Rattle.world.specs.Acked.{is_acknowledging}
use Rattle.world.specs.Counts.{Counts}
use Rattle.world.specs.Disk.{place}
use Rattle.said_lines.specs.Lines.{saved_line}
use Rattle.said_lines.specs.Speech.{Speech, heard}
use Rattle.save_disk.specs.Places.{durable_place}
use Rattle.world.specs.Save.{temporary_of}
use Rattle.save_course.specs.Course.{prefix_text}
use Rattle.job_end.specs.declared.answer.Answer.{Answer}
use Rattle.job_end.specs.declared.end.End.{End}
use Rattle.job_end.specs.Answers.{Answers}
use Rattle.job_saves.specs.Reads.{IsFirstOf}

-- the text is empty, or its last byte is a line feed
abbrev pub ends_line : List ℕ → Bool
ends_line [] = true
ends_line (c ∷ []) = c == 10
ends_line (c ∷ d ∷ text) = ends_line (d ∷ text)

-- what was heard ends with a whole line
abbrev pub IsWhole : List Entry → Type 0
IsWhole past = ends_line (heard past) ≡ true

-- while no say has failed, what was heard ends with a whole line, where the journal is told
abbrev pub SpeaksWhole : Option (List Entry) → Counts → Type 0
SpeaksWhole journal counts = ((0 < counts.say) → ⊥) → IfSome journal IsWhole

-- an end that a job on this output answers so
pub record AnswerOf (output : List ℕ) (a : Answer) : Type 0 where
  pub end : End
  pub answers : Answers output end a

-- the status and the line of a job on this output are those of an end, or memory was refused
abbrev pub IsAnswer : List ℕ → Answer → Type 0
IsAnswer output a = ∥ AnswerOf output a ∥₁

-- right behind this acknowledgment of a save of the output the line of that save was said whole; it tells of so many cells, and of
-- at most so many of them as settled
pub record WasTold (output : List ℕ) (most cells : ℕ) (begin past : List Entry) : Type 0 where
  pub settled : ℕ
  pub less : settled ≤ most
  pub said : List Entry
  pub speech : Speech (saved_line output settled cells) begin [] said
  pub later : List Entry
  pub is : past ≡ later ++ said

-- right behind each acknowledged save of the output its line was said whole, with numbers of at most these
abbrev pub TellsEach : List ℕ → ℕ → ℕ → List Entry → Type 0
TellsEach output most cells past = (begin later : List Entry) → past ≡ later ++ begin → is_acknowledging (temporary_of output) output begin ≡ true
    → WasTold output most cells begin past

-- right behind each save of the output that was acknowledged before the newest entry its line was said whole
abbrev pub TellsEarlier : List ℕ → ℕ → ℕ → List Entry → Type 0
TellsEarlier output most cells [] = Unit {0}
TellsEarlier output most cells (entry ∷ past) = TellsEach output most cells past

-- the newest entry neither renames a file nor syncs a folder, as a save does
abbrev pub SavesNone : List Entry → Type 0
SavesNone [] = ⊥
SavesNone (made.Renamed from to did ∷ past) = ⊥
SavesNone (made.DirSynced dir did ∷ past) = ⊥
SavesNone (entry ∷ past) = Unit {0}

-- What was saved last is a prefix of the notebook that this job has read, by messages whose contents were read: a crash leaves
-- its text at the output. It settles so many of the notebook's so many cells, and the lines of all saves before it tell of as many
-- cells and no more settled ones.
pub record IsPrefixOf (a : Ask) (settled cells : ℕ) (past : List Entry) : Type 0 where
  pub first : Notebook
  pub own : IsFirstOf a past first
  pub size : cells ≡ length first.cells
  pub within : settled ≤ cells
  pub us : List Used
  pub read : AreRead us
  pub stop : Option ℕ
  pub text : place past a.output ≡ durable_place (prefix_text a.merge first (record { us = us; settled = settled; stop = stop }))
  pub rises : TellsEarlier a.output settled cells past

-- A line that a job says behind these entries: that of a save right behind its acknowledgment, or its last one. Where the jobs
-- began `clean`, the line of a save tells how many cells are settled in what was saved, and of how many.
pub data IsLine (clean : Bool) (a : Ask) (begin : List Entry) : List ℕ → Type 0 where
  of_save : (settled cells : ℕ) → is_acknowledging (temporary_of a.output) a.output begin ≡ true → (clean ≡ true → IsPrefixOf a settled cells begin)
      → IsLine clean a begin (saved_line a.output settled cells)
  of_end : (answer : Answer) → IsAnswer a.output answer → IsLine clean a begin answer.line

-- the next bytes of a text, of which this is left; where the say fails it was to be all of it
abbrev pub IsNext : Did → List ℕ → List ℕ → Type 0
IsNext Done bytes rest = (n : ℕ) × (bytes ≡ take n rest)
IsNext Failed bytes rest = bytes ≡ rest

-- The next piece of a line, of which all was said since it began. Where the jobs began `clean`, it began behind a whole line.
pub record IsPiece (clean : Bool) (a : Ask) (bytes : List ℕ) (did : Did) (past : List Entry) : Type 0 where
  pub begin : List Entry
  pub line : List ℕ
  pub is : IsLine clean a begin line
  pub whole : clean ≡ true → IsWhole begin
  pub rest : List ℕ
  pub speech : Speech line begin rest past
  pub next : IsNext did bytes rest
