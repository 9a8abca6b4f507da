-- How a job begins, with what it asks of the world. A journal has its newest entry first.
use Rattle.std.specs.Prelude.{◌≡◌, ◌≢◌, ◌⊎◌, ◌<◌, ℕ, List, ◌∷◌, ◌++◌, length, true, false, Option, Some, None, Result, Ok, Err, if◌then◌else◌}
use Rattle.nb_model.specs.declared.notebook.Notebook.{Notebook}
use Rattle.nb_model.specs.Planned.{plan}
use Rattle.cell_core.specs.Task.{Task}
use Rattle.cell_core.specs.declared.why.Why.{Why}
use Rattle.cell_core.specs.declared.why.Why.TheVariants as why
use Rattle.nb_load.specs.declared.load_fault.LoadFault.{LoadFault}
use Rattle.nb_load.specs.Loaded.{Accepts, Refuses}
use Rattle.words.specs.declared.ask.Ask.{Ask}
use Rattle.world.specs.declared.entry.Entry.{Entry}
use Rattle.world.specs.declared.entry.Entry.TheVariants.{Read}
use Rattle.world.specs.declared.read_file.ReadFile.{ReadFile}
use Rattle.world.specs.declared.read_file.ReadFile.TheVariants as found
use Rattle.world.specs.Counts.{Counts}
use Rattle.world.specs.Moments.{Since, Told}
use Rattle.world.specs.Touched.{Spares}
use Rattle.kernel_start.specs.declared.kernel_fault.KernelFault.{KernelFault}
use Rattle.kernel_start.specs.declared.kernel_fault.KernelFault.TheVariants as kernel_fault
use Rattle.kernel_start.specs.Finding.{FindsBy}
use Rattle.job_end.specs.declared.answer.Answer.{Answer}
use Rattle.job_end.specs.declared.end.End.{End}
use Rattle.job_end.specs.declared.end.End.TheVariants as end
use Rattle.job_end.specs.Answers.{Answers}
use Rattle.job_end.specs.Statuses.{status_of}
use Rattle.job_saves.specs.Course.{Origin, IsEndOfSave, keeps_open}
use Rattle.job_saves.specs.Reads.{first_of}
use Rattle.job_run.specs.declared.job.Job.{Job}
use Rattle.job_run.specs.Run.{BeginsAs}
use Rattle.job_run.specs.Task.{task_for, task_of_job}
use Rattle.job_journal.specs.Ended.{cause_of}
use Rattle.job_run.specs.Told.{StopsFor}
use Rattle.job_begin.specs.Standing.{BeginsFollowing, BeginsSpeaking}

-- the saves of a job with this notebook begin so
abbrev pub origin_of : Ask → Notebook → List Entry → Counts → Origin
origin_of a n before counts = record { is_watched = true; output = a.output; merge = a.merge; first = first_of a n; before = before; counts = counts }

-- the task whose events bring its end, unless nothing is executed
abbrev pub counted_task : Ask → Notebook → Option Task
counted_task a first = if a.prepare then None else Some (task_for a first)

-- A status of a job whose notebook is first saved so names a cause only where there are events that stop its core for it. 0
-- comes too where it has no cell to execute.
pub record IsCausedIn (a : Ask) (first : Notebook) (status : ℕ) : Type 0 where
  pub done : status ≡ 0 → a.prepare ≡ false → 0 < length (plan first) → StopsFor (task_for a first) why.Done
  pub other : (cause : Why) → cause ≢ why.Done → cause_of status ≡ Some cause → StopsFor (task_for a first) cause

-- a status that names no cause
abbrev pub IsUncaused : ℕ → Type 0
IsUncaused status = cause_of status ≡ None

-- a job of which nothing is executed ends so
abbrev pub IsEndOfSaving : End → Type 0
IsEndOfSaving end.Done = Unit {0}
IsEndOfSaving e = IsEndOfSave e

-- a job whose notebook is first saved so runs with its cells as its task, or has ended by such a cause
abbrev pub StartsWith : Ask → Notebook → Result Job End → Type 0
StartsWith a first (Ok j) = task_of_job j ≡ task_for a first
StartsWith a first (Err e) = IsCausedIn a first (status_of e)

-- the begin of a job whose notebook is first saved so: it runs with its cells as its task, or answers with such a status
abbrev pub BeginsWith : Ask → Notebook → Result Job Answer → Type 0
BeginsWith a first (Ok j) = task_of_job j ≡ task_for a first
BeginsWith a first (Err answer) = IsCausedIn a first answer.status

-- why the input of a job gives no notebook, by what was asked of the disk
pub data GivesNone (a : Ask) (before : List Entry) : End → List Entry → Type 0 where
  not_read : GivesNone a before (end.NotRead a.input) (Read a.input 33554432 found.Failed ∷ before)
  too_large : GivesNone a before end.TooLarge (Read a.input 33554432 found.Big ∷ before)
  refused : (bytes : List ℕ) (f : LoadFault) → Refuses a bytes f → GivesNone a before (end.NotLoaded f) (Read a.input 33554432 (found.Whole bytes) ∷ before)
  no_memory : (answer : ReadFile) → GivesNone a before end.NoMemory (Read a.input 33554432 answer ∷ before)
  not_asked : GivesNone a before end.NoMemory before

-- a job ended because its input gave no notebook: its status is that of the end, or memory was refused, and nothing touched its
-- output before that or since
pub record IsUnread (a : Ask) (status : ℕ) (before after : List Entry) : Type 0 where
  pub end : End
  pub at : List Entry
  pub read : List Entry
  pub gives : GivesNone a at end read
  pub status_is : (status ≡ status_of end) ⊎ (status ≡ 12)
  pub since : Since (Spares a.output) before at
  pub later : Since (Spares a.output) read after

-- how a job ends for which no kernel was found by that fault
abbrev pub end_for : KernelFault → End
end_for kernel_fault.NoName = end.NoKernelName
end_for kernel_fault.BadName = end.BadKernelName
end_for (kernel_fault.NotRead path) = end.NotRead path
end_for (kernel_fault.BadSpec f) = end.BadSpec f
end_for kernel_fault.NoMemory = end.NoMemory

-- the look for a kernel gave a fault by which the job ends so, with all that was asked of the disk for it
pub record LooksInVain (a : Ask) (first : Notebook) (e : End) (before after : List Entry) : Type 0 where
  pub fault : KernelFault
  pub finds : FindsBy a first (Err fault) before after
  pub end_is : e ≡ end_for fault

-- calls that end a job so end it with 5 only by the fault that its look for a kernel gave, and with 4 never
pub record KernelEnds (a : Ask) (first : Notebook) (old new : Option (List Entry)) (e : End) : Type 0 where
  pub kernel : status_of e ≡ 5 → Told old new (LooksInVain a first e)
  pub loaded : status_of e ≡ 4 → ⊥

-- no kernel was found for a job that ended with this status; nothing touched its output before that or since
pub record LacksKernel (a : Ask) (first : Notebook) (status : ℕ) (before after : List Entry) : Type 0 where
  pub at : List Entry
  pub looked : List Entry
  pub end : End
  pub looks : LooksInVain a first end at looked
  pub status_is : status ≡ status_of end
  pub since : Since (Spares a.output) before at
  pub later : Since (Spares a.output) looked after

-- a job whose notebook was read ends with 5 only where no kernel was found, and with 4 never
pub record HasKernel (a : Ask) (first : Notebook) (status : ℕ) (before after : List Entry) : Type 0 where
  pub kernel : status ≡ 5 → LacksKernel a first status before after
  pub loaded : status ≡ 4 → ⊥

-- the input of a job gave no notebook, for a reason that its answer names
pub record RefusesInput (a : Ask) (answer : Answer) (before after : List Entry) : Type 0 where
  pub end : End
  pub gives : GivesNone a before end after
  pub answers : Answers a.output end answer

-- the input of a job gave its notebook, and then its look for a kernel gave a fault, which its answer names
pub record RefusesKernel (a : Ask) (answer : Answer) (before after : List Entry) : Type 0 where
  pub bytes : List ℕ
  pub notebook : Notebook
  pub accepted : Accepts a bytes notebook
  pub fault : KernelFault
  pub finds : FindsBy a (first_of a notebook) (Err fault) (Read a.input 33554432 (found.Whole bytes) ∷ before) after
  pub answers : Answers a.output (end_for fault) answer

-- the answer of a job says by which refusal its begin has ended: with 4 its input was refused; with 5 that too, or the name or the
-- spec of its kernel
pub record NamesRefusal (a : Ask) (answer : Answer) (before after : List Entry) : Type 0 where
  pub input : answer.status ≡ 4 → RefusesInput a answer before after
  pub kernel : answer.status ≡ 5 → RefusesInput a answer before after ⊎ RefusesKernel a answer before after

-- the begin of a job finds a kernel, or has ended the job so
abbrev pub FindsKernel : Ask → Notebook → Result Job Answer → List Entry → List Entry → Type 0
FindsKernel a first (Ok j) before after = Unit {0}
FindsKernel a first (Err answer) before after = HasKernel a first answer.status before after

-- The job of this number began so: its input gave no notebook, and its output wasn't touched; or it was the first entry of the job, its bytes
-- give the notebook with its parameters, its cells are the task of the job, and the saves since are a course of its prefixes. Where it runs it speaks
-- in the session that was drawn for it. By each plot with that notebook the job stands for the journal, where nothing had happened to it before.
pub data Begun (number : ℕ) (a : Ask) (result : Result Job Answer) (old new : Counts) (before : List Entry) : List Entry → Type 0 where
  without : {answer : Answer} {after : List Entry} → result ≡ Err answer → IsUnread a answer.status before after → Since (Spares a.output) before after → Begun number a result old new before after
  with_notebook : (bytes : List ℕ) (n : Notebook) (later : List Entry) {after : List Entry} → Accepts a bytes n
      → after ≡ later ++ Read a.input 33554432 (found.Whole bytes) ∷ before
      → BeginsWith a (first_of a n) result → FindsKernel a (first_of a n) result (Read a.input 33554432 (found.Whole bytes) ∷ before) after
      → BeginsAs (origin_of a n before old) (counted_task a (first_of a n)) result (Some after) new
      → BeginsSpeaking number a.output result before after → BeginsFollowing number a n result before after → Begun number a result old new before after

-- the notebook of an input that was read so
abbrev pub IsGivenBy : Ask → ReadFile → Notebook → Type 0
IsGivenBy a read n = (bytes : List ℕ) × (read ≡ found.Whole bytes) × Accepts a bytes n

-- the input was read, and its bytes give this notebook with its parameters
pub record HasRead (a : Ask) (n : Notebook) (before after : List Entry) : Type 0 where
  pub bytes : List ℕ
  pub accepted : Accepts a bytes n
  pub is : after ≡ Read a.input 33554432 (found.Whole bytes) ∷ before

-- a job that began so answers so: it runs, or the answer is that of its end
abbrev pub AnswersAs : List ℕ → Result Job End → Result Job Answer → Type 0
AnswersAs output (Ok j) (Ok k) = k ≡ j
AnswersAs output (Err e) (Err a) = Answers output e a
AnswersAs output (Ok j) (Err a) = ⊥
AnswersAs output (Err e) (Ok k) = ⊥

-- a job that ends so has no failed save
abbrev pub IsOpen : End → Type 0
IsOpen e = keeps_open e ≡ true
