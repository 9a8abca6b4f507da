-- What a run makes of the world that executes notebooks, over a journal that was empty at its start, its newest entry first.
use Rattle.std.specs.Prelude.{◌≡◌, ◌≢◌, ◌⊎◌, ◌==◌, ◌+◌, ◌<◌, ◌≤◌, ℕ, List, [], ◌∷◌, ◌++◌, Bool, true, false, not, length, slice_get, Some, None, Result, Ok, Err, find, option_map, unwrap_or, codes}
use Rattle.jtext.specs.declared.json.Json.{Json}
use Rattle.nb_model.specs.declared.notebook.Notebook.{Notebook}
use Rattle.nb_load.specs.Loaded.{Accepts}
use Rattle.words.specs.declared.ask.Ask.{Ask}
use Rattle.words.specs.declared.usage.Usage.{Usage}
use Rattle.words.specs.declared.usage.Usage.TheVariants as usage_fault
use Rattle.words.specs.JobsAsked.{asks_of}
use Rattle.words.specs.JobsFaults.{Refused}
use Rattle.jtext.specs.Within.{IsTextWithin}
use Rattle.words.specs.JobsFile.{IsJobsFile}
use Rattle.words.specs.Paths.{connection_of}
use Rattle.world.specs.declared.entry.Entry.{Entry}
use Rattle.world.specs.declared.entry.Entry.TheVariants.{Read}
use Rattle.world.specs.declared.read_file.ReadFile.{ReadFile}
use Rattle.world.specs.declared.read_file.ReadFile.TheVariants as found
use Rattle.world.specs.Save.{temporary_of}
use Rattle.ready_loop.specs.Standing.{AllShut}
use Rattle.run_journal.specs.Job.{Job}
use Rattle.run_journal.specs.Saves.{renamed_texts}
use Rattle.job_journal.specs.Plot.{Plot, facts}
use Rattle.job_journal.specs.Quiet.{is_unread}
use Rattle.job_journal.specs.Ended.{HasAnswered}
use Rattle.cell_core.specs.Task.{Task}
use Rattle.job_run.specs.Beginning.{IsSessionOf}
use Rattle.job_run.specs.Counted.{IsCausedAfter}
use Rattle.job_run.specs.Left.{NamesFailed}
use Rattle.job_run.specs.Task.{task_for}
use Rattle.job_saves.specs.Left.{OutputAt, IsLeft}
use Rattle.save_course.specs.Course.{IsSavedSo}
use Rattle.said_lines.specs.Speech.{Says}
use Rattle.world.specs.Counts.{Counts, Rose}
use Rattle.world.specs.Moments.{Since}
use Rattle.world.specs.Touched.{Spares}
use Rattle.job_end.specs.declared.answer.Answer.{Answer}
use Rattle.job_saves.specs.Reads.{first_of}
use Rattle.job_begin.specs.Begun.{counted_task, IsCausedIn, IsUnread, HasKernel}
use Rattle.job_begin.specs.Causes.{HasCause}
use Rattle.job_begin.specs.Standing.{IsPlotWith}
use Rattle.batch_run.specs.Batch.{AreSaid, CallsOfJobs, EndsChildren, HasWaited, numbered}
use Rattle.nbrun_top.specs.declared.answer.Answer.{Answer as Last}
use Rattle.nbrun_top.specs.declared.end.End.{End}
use Rattle.nbrun_top.specs.declared.end.End.TheVariants as end
use Rattle.nbrun_top.specs.Asked.{IsExecuted, IsBatch}
use Rattle.nbrun_top.specs.Codes.{code_of}
use Rattle.nbrun_top.specs.Ended.{Answers}
use Rattle.nbrun_top.specs.Lines.{all_lines}
use Rattle.nbrun_top.specs.Ran.{IsUntouched}
use Rattle.job_run.specs.Run.{IsUnsaved}

-- ---- the jobs

-- the journal after the read of a jobs file, of which at most 1 MiB is read
abbrev pub file_read : List ℕ → ReadFile → List Entry → List Entry
file_read file answer before = Read file 1048576 answer ∷ before

-- the bytes are a jobs file with this path, which asks for these jobs
pub record IsFileOf (file : List ℕ) (common : Ask) (bytes : List ℕ) (asks : List Ask) : Type 0 where
  pub tree : Json
  pub text : IsTextWithin 1048576 100 bytes tree
  pub is : IsJobsFile file tree
  pub asked : asks ≡ asks_of common tree

-- the words ask for these jobs, and this stands before them: nothing, or the read of their file
pub data AreJobs (words : List (List ℕ)) : List Ask → List Entry → Type 0 where
  of_words : (a : Ask) → IsExecuted words a → AreJobs words (a ∷ []) []
  of_file : (file : List ℕ) (common : Ask) (bytes : List ℕ) (asks : List Ask) → IsBatch words file common → IsFileOf file common bytes asks
      → AreJobs words asks (file_read file (found.Whole bytes) [])

-- why a jobs file gives no jobs, with what is asked of the disk
pub data GivesNone (file : List ℕ) (before : List Entry) : End → List Entry → Type 0 where
  cannot_read : GivesNone file before end.NotRead (file_read file found.Failed before)
  too_large : GivesNone file before (end.Refused (usage_fault.BadJobs [])) (file_read file found.Big before)
  refused : (bytes : List ℕ) (u : Usage) → Refused file bytes u → GivesNone file before (end.Refused u) (file_read file (found.Whole bytes) before)
  no_memory : (answer : ReadFile) → GivesNone file before end.NoMemory (file_read file answer before)

-- the read of the file gives these jobs, or the run ends so
abbrev pub GivesAsks : List ℕ → Ask → List Entry → Result (List Ask) Last → List Entry → Type 0
GivesAsks file common before (Ok asks) after = (bytes : List ℕ) × IsFileOf file common bytes asks × (after ≡ file_read file (found.Whole bytes) before)
GivesAsks file common before (Err r) after = GivesNone file before r.end after

-- a run may end so where its jobs file gives no jobs
abbrev pub IsEndOfFile : End → Type 0
IsEndOfFile (end.Refused u) = Unit {0}
IsEndOfFile end.NotRead = Unit {0}
IsEndOfFile end.NoMemory = Unit {0}
IsEndOfFile e = ⊥

-- ---- what a job makes of its output

-- a job with this output doesn't write to the path: it is neither the output nor the temporary or the connection file beside it
pub record DoesNotWrite (output path : List ℕ) : Type 0 where
  pub not_output : output ≢ path
  pub not_temporary : temporary_of output ≢ path
  pub not_connection : connection_of output ≢ path

-- no other job writes to the output of the job with this number
pub record IsAlone (asks : List Ask) (i : ℕ) (a : Ask) : Type 0 where
  pub is : slice_get asks i ≡ Some a
  pub others : (k : ℕ) (b : Ask) → k ≢ i → slice_get asks k ≡ Some b → DoesNotWrite b.output a.output

-- none of these jobs writes to the path
abbrev pub NoneWrites : List Ask → List ℕ → Type 0
NoneWrites asks path = (i : ℕ) (a : Ask) → slice_get asks i ≡ Some a → DoesNotWrite a.output path

-- no job writes to the output of another one, or to the input of any
pub record AreApart (asks : List Ask) : Type 0 where
  pub outputs : (i : ℕ) (a : Ask) → slice_get asks i ≡ Some a → IsAlone asks i a
  pub inputs : (i : ℕ) (a : Ask) → slice_get asks i ≡ Some a → NoneWrites asks a.input

-- the output of a job with this notebook, at the end of the journal
abbrev pub output_of : Ask → Notebook → List Entry → OutputAt
output_of a first journal = record { output = a.output; merge = a.merge; first = first; past = journal }

-- a status that names a cause comes only where there are events that stop the job for it, of which as many are saves as were
-- acknowledged at its output, and where a crash leaves there what that cause asks for
abbrev pub IsCountedIn : Ask → Notebook → ℕ → List Entry → Type 0
IsCountedIn a first status journal = (task : Task) → counted_task a first ≡ Some task → IsCausedAfter (output_of a first journal) task status

-- What a crash leaves at the output of a job that executed cells and ended with this status: just one text, that of its last save.
pub record IsLeftAs (a : Ask) (first : Notebook) (status : ℕ) (journal : List Entry) : Type 0 where
  -- with 0 that of the notebook with each of its cells settled, which names no cell at which the run stopped
  pub done : status ≡ 0 → ∥ IsLeft (output_of a first journal) (length first.cells) None ∥₁
  -- with 1, 9 and 13 that of the notebook with the cells settled up to one that was to be executed, at which the run stopped
  pub failed : (status ≡ 1) ⊎ (status ≡ 9) ⊎ (status ≡ 13) → ∥ NamesFailed (output_of a first journal) (task_for a first) ∥₁
  -- with 8 and 15 the same, or, as long as no request was sent, that of the notebook with no cell settled
  pub broken : (status ≡ 8) ⊎ (status ≡ 15) → ∥ IsLeft (output_of a first journal) 0 None ⊎ NamesFailed (output_of a first journal) (task_for a first) ∥₁
  -- with 7 that of the notebook with no cell settled
  pub not_ready : status ≡ 7 → ∥ IsLeft (output_of a first journal) 0 None ∥₁

-- A plot is of the job of this number, with what it asks and with this notebook. The job executes a cell, and wants no interrupts.
pub record IsExecutedPlot (p : Plot) (i : ℕ) (a : Ask) (n : Notebook) : Type 0 where
  pub is : IsPlotWith p i a n
  pub undated : (facts p).task.times.interrupt ≡ false
  pub runs : 0 < length (facts p).task.plan

-- The job of this number has ended with its answer by the journal, in the session and under the key that were drawn for it. What was saved are the
-- first of the saves that are due by the kernel's signed messages. Where the status names a cause, the requests tell of it, all saves that are due
-- were made, and the line says so. Where no kernel was started, it holds in any session.
pub data FollowsJournal (i : ℕ) (a : Ask) (n : Notebook) (answer : Answer) (journal : List Entry) : Type 0 where
  in_session : (session key : List ℕ) → IsSessionOf i a.output session key [] journal
      → ((p : Plot) → IsExecutedPlot p i a n → p.setting.session ≡ session → p.setting.key ≡ key → HasAnswered p answer journal)
      → FollowsJournal i a n answer journal
  in_any : ((p : Plot) → IsExecutedPlot p i a n → HasAnswered p answer journal) → FollowsJournal i a n answer journal

-- The output of a job that ended with this status wasn't touched; or the bytes of its input give a notebook with the
-- parameters, nothing had touched the output before they were read, and then it was saved by prefixes of that notebook,
-- without a failed save unless the status says so. A status that names a cause comes only where there are events that stop the job for
-- it, with as many saves as were acknowledged, and a crash then leaves just the text of the last save, which the status asks for. 4 and
-- 5 come only where the input gave no notebook, or 5 where no kernel was found for it. Unless memory was refused, the job has ended with this
-- answer by the journal. `i`: the job's number.
pub data IsSavedOnly (i : ℕ) (a : Ask) (answer : Answer) (status : ℕ) (journal : List Entry) : Type 0 where
  untouched : (before : List Entry) → IsUntouched a.output journal → IsUnread a status before journal → IsSavedOnly i a answer status journal
  saved : (bytes : List ℕ) (n : Notebook) (is_open : Bool) (before later : List Entry) → Accepts a bytes n
      → journal ≡ later ++ Read a.input 33554432 (found.Whole bytes) ∷ before → IsUntouched a.output before
      → IsSavedSo a.output a.merge (first_of a n) 0 is_open before journal → (is_open ≡ false → IsUnsaved status)
      → IsCausedIn a (first_of a n) status → IsCountedIn a (first_of a n) status journal → (a.prepare ≡ false → IsLeftAs a (first_of a n) status journal)
      → HasKernel a (first_of a n) status (Read a.input 33554432 (found.Whole bytes) ∷ before) journal
      → (status ≢ 12 → FollowsJournal i a n answer journal) → IsSavedOnly i a answer status journal

-- the one job of a run has ended with an answer, and what it saved is by that answer, where the run ends with this status
pub record IsSavedAlone (a : Ask) (status : ℕ) (journal : List Entry) : Type 0 where
  pub answer : Answer
  pub saved : IsSavedOnly 0 a answer status journal

-- jobs have ended with these answers, one each, and no other path was written to, each input among them
pub record HaveRun (asks : List Ask) (answers : List Answer) (journal : List Entry) : Type 0 where
  pub one_each : length answers ≡ length asks
  pub outputs : (i : ℕ) (a : Ask) (answer : Answer) → slice_get asks i ≡ Some a → slice_get answers i ≡ Some answer → IsSavedOnly i a answer answer.status journal
  pub inputs : (i : ℕ) (a : Ask) → slice_get asks i ≡ Some a → IsUntouched a.input journal
  pub others : (path : List ℕ) → NoneWrites asks path → IsUntouched path journal

-- the status of the first job whose status isn't 0, and 0 where there is none
abbrev pub first_fault : List Answer → ℕ
first_fault answers = unwrap_or (option_map (λ (a : Answer). a.status) (find (λ (a : Answer). not (a.status == 0)) answers)) 0

-- No path was touched, no connection is open, and for no job was a byte got or a text renamed onto its output.
pub record IsBare (journal : List Entry) : Type 0 where
  pub quiet : (path : List ℕ) → Since (Spares path) [] journal
  pub shut : AllShut journal
  pub unread : (j : Job) → is_unread j journal ≡ true
  pub unrenamed : (j : Job) → renamed_texts j journal ≡ []

-- behind the jobs nothing more is said, or where memory was refused the line that says so
pub data EndsSpeech (cut : Type 0) (code : ℕ) (done : List Entry) : List Entry → Type 0 where
  silence : EndsSpeech cut code done done
  last_line : {after : List Entry} → code ≡ 12 → Says (all_lines [] [] end.NoMemory) cut done after → EndsSpeech cut code done after

-- Jobs have run behind these entries, and the run ends with that status. `done`: when they had ended, with what was said since.
-- Each call was one of the loop or of one of the jobs, and each child that was started has its end. The last line of each job was said.
pub record Runs (asks : List Ask) (here : List ℕ) (rose cut : Type 0) (code : ℕ) (before after : List Entry) : Type 0 where
  pub answers : List Answer
  pub later : List Entry
  pub split : after ≡ later ++ before
  pub run : HaveRun asks answers after
  pub status : Answers rose (first_fault answers) code
  pub done : List Entry
  pub calls : CallsOfJobs (numbered 0 asks) here true before done
  pub said : AreSaid asks answers cut before done
  pub speech : EndsSpeech cut code done after
  pub children : EndsChildren (numbered 0 asks) before after

-- a status of a run that executes comes only where the count of the calls that it tells of rose: 3 and 10 of the disk, 6 of the
-- random words or of the children, 11 of the says, 14 of the network; 16 only where all of so many waits were made
pub record IsCounted (turns : ℕ) (old new : Counts) (code : ℕ) : Type 0 where
  pub cause : HasCause old new code
  pub say : code ≡ 11 → Rose old.say new.say
  pub spent : code ≡ 16 → HasWaited (old.waits + turns) new

-- it was waited at most so often
abbrev pub WaitsAtMost : {W : Type 0} → (W → Counts) → W → W → ℕ → Type 0
WaitsAtMost counts old new most = (counts new).waits ≤ (counts old).waits + most

-- it was waited so often, or the count of waits stands at the last value of a `u64`
abbrev pub WaitsAll : {W : Type 0} → (W → Counts) → W → W → ℕ → Type 0
WaitsAll counts old new turns = HasWaited ((counts old).waits + turns) (counts new)

-- the count of failed calls of the network rose
abbrev pub NetRose : {W : Type 0} → (W → Counts) → W → W → Type 0
NetRose counts old new = Rose (counts old).net (counts new).net

-- the count of random words or that of children rose
abbrev pub StartRose : {W : Type 0} → (W → Counts) → W → W → Type 0
StartRose counts old new = (Rose (counts old).rand (counts new).rand) ⊎ (Rose (counts old).child (counts new).child)

-- ---- the run

-- The run in this working folder ended with that status: its jobs have run; or their file gives none, which was said; or memory was refused before
-- anything was asked of the disk. `rose`: the count of failed says rose in it; `cut`: that count isn't 0 at its end.
pub data Executed (words : List (List ℕ)) (here : List ℕ) (rose cut : Type 0) : ℕ → List Entry → Type 0 where
  ran : (asks : List Ask) (begun after : List Entry) (code : ℕ) → AreJobs words asks begun → Runs asks here rose cut code begun after → Executed words here rose cut code after
  none : (file : List ℕ) (common : Ask) (e : End) (on_disk after : List Entry) → IsBatch words file common → GivesNone file [] e on_disk
      → Says (all_lines file (codes "nbrun") e) cut on_disk after → Executed words here rose cut (code_of e) after
  starved : (after : List Entry) → Says (all_lines [] [] end.NoMemory) cut [] after → Executed words here rose cut 12 after
