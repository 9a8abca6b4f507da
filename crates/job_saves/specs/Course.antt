-- What a job makes of its output: a course of saves, each of a prefix of its notebook (Papermill and nbclient save after each
-- cell). A journal has its newest entry first.
use Rattle.std.specs.Prelude.{◌≡◌, ℕ, ◌≤◌, ◌<◌, length, List, Bool, true, false, Option, Some, IfSome, Result, Ok, Err}
use Rattle.nb_model.specs.declared.notebook.Notebook.{Notebook}
use Rattle.world.specs.declared.entry.Entry.{Entry}
use Rattle.world.specs.Counts.{Counts, CountsGrow, Rose}
use Rattle.world.specs.Moments.{Since}
use Rattle.progress_save.specs.declared.progress_fault.ProgressFault.{ProgressFault}
use Rattle.progress_save.specs.declared.progress_fault.ProgressFault.TheVariants as fault
use Rattle.save_course.specs.Course.{Course, IsRested}
use Rattle.save_disk.specs.Places.{save_count}
use Rattle.job_notebook.specs.declared.notebook.JobNotebook.{JobNotebook}
use Rattle.job_notebook.specs.State.{notebook_of, settled_of, merge_of, output_of, is_closed, KeepsRead}
use Rattle.words.specs.declared.ask.Ask.{Ask}
use Rattle.job_end.specs.declared.end.End.{End}
use Rattle.job_end.specs.declared.end.End.TheVariants as end
use Rattle.job_saves.specs.Calls.{Cast, IsCall}
use Rattle.job_saves.specs.Reads.{IsFirstOf}
use Rattle.job_saves.specs.Speaking.{SpeaksWhole, TellsEach}

-- what the saves of a job begin with: its output, whether neighbouring streams of one name are joined, the notebook as it is
-- before its cells are executed, and the journal and the counts of failures before its first entry; what is said of one that
-- isn't watched is of the counts alone
pub record Origin : Type 0 where
  pub is_watched : Bool
  pub output : List ℕ
  pub merge : Bool
  pub first : Notebook
  pub before : List Entry
  pub counts : Counts

-- The output was saved by a course of prefixes that settles so many cells, and no rename onto it waits for the sync of its
-- folder. `is_open` as long as no save has failed.
pub record IsSaved (o : Origin) (is_open : Bool) (settled : ℕ) (past : List Entry) : Type 0 where
  pub course : Course o.output o.merge o.first 0 o.before is_open settled past
  pub rested : IsRested o.output past

-- the output was saved by a course of prefixes, and the next save of this notebook goes on with it
pub record IsOnCourse (o : Origin) (b : JobNotebook) (is_open : Bool) (past : List Entry) : Type 0 where
  pub settled : ℕ
  pub is : IsSaved o is_open settled past
  pub above : is_open ≡ true → is_closed b ≡ false → settled ≤ settled_of b
  pub keeps : is_open ≡ true → is_closed b ≡ false → KeepsRead b o.first

-- a job that began so stands so in its world; where a save has failed, a call of the disk has since its begin
pub record Stands (o : Origin) (b : JobNotebook) (is_open : Bool) (journal : Option (List Entry)) (counts : Counts) : Type 0 where
  pub output : output_of b ≡ o.output
  pub merge : merge_of b ≡ o.merge
  pub told : o.is_watched ≡ true → IfSome journal (IsOnCourse o b is_open)
  pub grow : CountsGrow o.counts counts
  pub cause : is_open ≡ false → Rose o.counts.disk counts.disk

-- calls go on with the course of every job that stands so, and no save has failed in them where `is_open`
abbrev pub GoesOn : {W : Type 0} → (W → Option (List Entry)) → (W → Counts) → W → W → JobNotebook → JobNotebook → Bool → Type 0
GoesOn journal counts old new was now is_open = (o : Origin) → Stands o was true (journal old) (counts old) → Stands o now is_open (journal new) (counts new)

-- what was changed in the notebook is nothing that its course depends on
abbrev pub StaysOn : JobNotebook → JobNotebook → Type 0
StaysOn was now = (o : Origin) (is_open : Bool) (journal : Option (List Entry)) (counts : Counts) → Stands o was is_open journal counts → Stands o now is_open journal counts

-- no count has fallen, and nothing has waited
pub record CountsWork (old new : Counts) : Type 0 where
  pub grow : CountsGrow old new
  pub waits : new.waits ≡ old.waits

-- since that moment all calls were of these jobs; where they began clean, what was heard ends with a whole line as long as no
-- say has failed
pub record HasCalled (c : Cast) (since : List Entry) (from : Counts) (journal : Option (List Entry)) (counts : Counts) : Type 0 where
  pub told : IfSome journal (Since (IsCall c) since)
  pub counts_work : CountsWork from counts
  pub spoken : c.clean ≡ true → SpeaksWhole journal counts

-- no save of this output was acknowledged, and no rename onto it waits for the sync of its folder
pub record LacksSaves (output : List ℕ) (past : List Entry) : Type 0 where
  pub rested : IsRested output past
  pub none : save_count output past ≡ 0

-- a job has read the notebook that it saves first, and has not saved yet
pub record HasOnlyRead (a : Ask) (first : Notebook) (past : List Entry) : Type 0 where
  pub own : IsFirstOf a past first
  pub lacks : LacksSaves a.output past

-- The next save of this notebook is of a prefix of the one that the job has read, and each of its saves that was acknowledged was
-- told by its line. No rename onto the output waits for the sync of its folder.
pub record IsTold (a : Ask) (b : JobNotebook) (past : List Entry) : Type 0 where
  pub first : Notebook
  pub own : IsFirstOf a past first
  pub size : length (notebook_of b).cells ≡ length first.cells
  pub merge : merge_of b ≡ a.merge
  pub keeps : KeepsRead b first
  pub rested : IsRested a.output past
  pub lines : TellsEach a.output (settled_of b) (length first.cells) past

-- while saves may follow and no say has failed, each acknowledged save was told by its line
abbrev pub TellsAll : Ask → JobNotebook → Option (List Entry) → Counts → Type 0
TellsAll a b journal counts = is_closed b ≡ false → ((0 < counts.say) → ⊥) → IfSome journal (IsTold a b)

-- this is the notebook of one of the jobs of a cast; where they began clean, each of its saves was told by its line
pub record HasPart (c : Cast) (since : List Entry) (from : Counts) (b : JobNotebook) (journal : Option (List Entry)) (counts : Counts) : Type 0 where
  pub number : ℕ
  pub ask : Ask
  pub has : c.job number ≡ Some ask
  pub output : output_of b ≡ ask.output
  pub so : HasCalled c since from journal counts
  pub told : c.clean ≡ true → TellsAll ask b journal counts

-- calls are those of a job with this notebook
abbrev pub CallsOwn : {W : Type 0} → (W → Option (List Entry)) → (W → Counts) → W → W → JobNotebook → JobNotebook → Type 0
CallsOwn journal counts old new was now = (c : Cast) (since : List Entry) (from : Counts) → HasPart c since from was (journal old) (counts old)
    → HasPart c since from now (journal new) (counts new)

-- what was changed in the notebook is not where it is saved
abbrev pub KeepsPart : JobNotebook → JobNotebook → Type 0
KeepsPart was now = (c : Cast) (since : List Entry) (from : Counts) (journal : Option (List Entry)) (counts : Counts) → HasPart c since from was journal counts
    → HasPart c since from now journal counts

-- a job that hasn't saved yet
pub record Begins (o : Origin) (journal : Option (List Entry)) (counts : Counts) : Type 0 where
  pub told : o.is_watched ≡ true → IfSome journal (IsSaved o true 0)
  pub grow : CountsGrow o.counts counts

-- some saves were made, of prefixes
pub record HasSaved (o : Origin) (is_open : Bool) (past : List Entry) : Type 0 where
  pub settled : ℕ
  pub is : IsSaved o is_open settled past

-- a job that began so has ended
pub record Ends (o : Origin) (is_open : Bool) (journal : Option (List Entry)) (counts : Counts) : Type 0 where
  pub told : o.is_watched ≡ true → IfSome journal (HasSaved o is_open)
  pub grow : CountsGrow o.counts counts
  pub cause : is_open ≡ false → Rose o.counts.disk counts.disk

-- the saves of this notebook at this output begin so
pub record IsFor (output : List ℕ) (merge : Bool) (first : Notebook) (o : Origin) : Type 0 where
  pub output_is : o.output ≡ output
  pub merge_is : o.merge ≡ merge
  pub first_is : o.first ≡ first

-- whether no save has failed where a job ends so
abbrev pub keeps_open : End → Bool
keeps_open (end.NotSaved f) = false
keeps_open _ = true

-- whether no save has failed: so says the answer
abbrev pub stays_open : {U : Type 0} → Result U End → Bool
stays_open (Ok u) = true
stays_open (Err e) = keeps_open e

-- how a job ends by the answer of a save
abbrev pub answer_of : {U : Type 0} → Result U ProgressFault → Result U End
answer_of (Ok u) = Ok u
answer_of (Err (fault.Save f)) = Err (end.NotSaved f)
answer_of (Err fault.Closed) = Err end.NoMemory
answer_of (Err fault.NoMemory) = Err end.NoMemory

-- a job ends so once its notebook is executed: neither what it reads nor the start of its kernel ends it any more
abbrev pub IsEndOfRun : End → Type 0
IsEndOfRun (end.NotRead path) = ⊥
IsEndOfRun end.TooLarge = ⊥
IsEndOfRun (end.NotLoaded f) = ⊥
IsEndOfRun end.NoKernelName = ⊥
IsEndOfRun end.BadKernelName = ⊥
IsEndOfRun (end.BadSpec f) = ⊥
IsEndOfRun end.NotStarted = ⊥
IsEndOfRun end.NoConnectionFile = ⊥
IsEndOfRun _ = Unit {0}

-- a save ends a job so: it failed, or memory was wanted
abbrev pub IsEndOfSave : End → Type 0
IsEndOfSave (end.NotSaved f) = Unit {0}
IsEndOfSave end.NoMemory = Unit {0}
IsEndOfSave _ = ⊥
