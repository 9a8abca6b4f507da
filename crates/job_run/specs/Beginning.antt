-- What a job stands for as it begins, by the journal of its world. It holds of jobs that want no interrupts.
use Rattle.std.specs.Prelude.{◌≡◌, ◌<◌, ◌∷◌, ◌++◌, ℕ, true, false, List, [], length, Some, Result, Ok, Err}
use Rattle.words.specs.declared.ask.Ask.{Ask}
use Rattle.world.specs.declared.entry.Entry.{Entry}
use Rattle.world.specs.declared.entry.Entry.TheVariants.{Ports}
use Rattle.world.specs.Moments.{Since}
use Rattle.world.specs.Places.{time}
use Rattle.nb_model.specs.declared.notebook.Notebook.{Notebook}
use Rattle.kernel_start.specs.declared.random_words.RandomPairs.{RandomPairs}
use Rattle.kernel_talk.specs.Requests.{identifier}
use Rattle.cell_core.specs.StandsFor.{StandsFor}
use Rattle.job_end.specs.declared.end.End.{End}
use Rattle.job_notebook.specs.State.{Keeps}
use Rattle.job_saves.specs.Sessions.{HasDrawn, IsSaveCall, key_of}
use Rattle.run_journal.specs.Saves.{renamed_texts}
use Rattle.job_journal.specs.Plot.{Plot, IsFor, facts, first}
use Rattle.job_journal.specs.Quiet.{is_unread}
use Rattle.job_journal.specs.Standing.{AreNew}
use Rattle.job_run.specs.declared.execution.Execution.{Execution}
use Rattle.job_run.specs.declared.job.Job.{Job}
use Rattle.job_run.specs.JobStanding.{JobStands}
use Rattle.job_run.specs.Standing.{EndsSo, Stands, parts_of}
use Rattle.job_run.specs.Task.{AreTermsOf, task_for}

-- Nothing has happened to an execution yet: its connections and its core are new, no clock was read, and its notebook is as it was given.
pub record IsUnbegun (given : Notebook) (x : Execution) : Type 0 where
  pub parts : AreNew (parts_of x)
  pub core : StandsFor x.core []
  pub keeps : Keeps x.book given []
  pub clock : x.clock ≡ 0

-- Nothing has happened to the job of a plot yet: no byte was got for it, and nothing was renamed onto its output. It wants no interrupt, and it
-- has a cell to execute.
pub record IsFresh (p : Plot) (now : List Entry) : Type 0 where
  pub undated : (facts p).task.times.interrupt ≡ false
  pub runs : 0 < length (facts p).task.plan
  pub unread : is_unread (facts p) now ≡ true
  pub unrenamed : renamed_texts (facts p) now ≡ []

-- an execution of the plot's notebook is to begin, and nothing has happened to it or its job yet
pub record IsToBegin (p : Plot) (number : ℕ) (x : Execution) (now : List Entry) : Type 0 where
  pub unbegun : IsUnbegun (first p) x
  pub is_for : IsFor p number x.session x.core x.book
  pub terms : AreTermsOf p.ask x.terms
  pub fresh : IsFresh p now

-- The first save of an execution was made: it stands for the journal but for its clock, which wasn't read yet. No byte was got for its job.
pub record HasSavedFirst (p : Plot) (number : ℕ) (x : Execution) (now : List Entry) : Type 0 where
  pub stands : Stands p number (record x { clock = time now }) now
  pub clock : x.clock ≡ 0
  pub unread : is_unread (facts p) now ≡ true

-- a plot is of the job of this number that is asked for so, and that executes this notebook
pub record IsPlotOf (p : Plot) (number : ℕ) (ask : Ask) (given : Notebook) : Type 0 where
  pub number_is : number ≡ p.setting.number
  pub ask_is : p.ask ≡ ask
  pub first_is : first p ≡ given
  pub task_is : (facts p).task ≡ task_for ask given

-- a job speaks to its kernel in the plot's session, under its key
pub record SpeaksAs (p : Plot) (j : Job) : Type 0 where
  pub session_is : j.run.session.name ≡ p.setting.session
  pub key_is : j.run.session.key ≡ p.setting.key

-- a job speaks to its kernel in the session of an execution, under its key
pub record SpeaksOn (x : Execution) (j : Job) : Type 0 where
  pub name : j.run.session.name ≡ x.session.name
  pub key : j.run.session.key ≡ x.session.key

-- The session and the key of the job of this number, with this output, are of four words that were drawn since a moment. Behind these the job made
-- its first save, and then it asked for its ports: so they are the words that were drawn for it (jupyter_client, "Connection files").
pub record IsSessionOf (number : ℕ) (output session key : List ℕ) (before after : List Entry) : Type 0 where
  pub pairs : RandomPairs
  pub session_is : session ≡ identifier pairs.name.0 pairs.name.1
  pub key_is : key ≡ key_of pairs
  pub asked : List Entry
  pub drawn : HasDrawn output pairs asked
  pub earlier : List Entry
  pub since : drawn.before ≡ earlier ++ before
  pub ports : List ℕ
  pub later : List Entry
  pub split : after ≡ later ++ Ports number (Some ports) ∷ asked

-- a job speaks in the session and under the key that were drawn for it
abbrev pub HasSession : ℕ → List ℕ → Job → List Entry → List Entry → Type 0
HasSession number output j before after = IsSessionOf number output j.run.session.name j.run.session.key before after

-- only entries were added
abbrev pub IsLater : List Entry → List Entry → Type 0
IsLater before after = Since (λ now. Unit {0}) before after

-- the job of this number asked for its ports first, and they could be had
pub record AsksPorts (number : ℕ) (before after : List Entry) : Type 0 where
  pub ports : List ℕ
  pub later : IsLater (Ports number (Some ports) ∷ before) after

-- the same behind the first save of this output
pub record SavesAndAsks (number : ℕ) (output : List ℕ) (before after : List Entry) : Type 0 where
  pub asked : List Entry
  pub saves : Since (IsSaveCall output) before asked
  pub asks : AsksPorts number asked after

-- A job that has begun stands for the journal, or its begin ends it so.
abbrev pub BeginsOrEnds : Plot → Result Job End → List Entry → Type 0
BeginsOrEnds p (Ok j) now = JobStands p j now
BeginsOrEnds p (Err e) now = EndsSo p e now

-- the same of a job that speaks in the plot's session, which only a start that ends well settles
abbrev pub StartsOrEnds : Plot → Result Job End → List Entry → Type 0
StartsOrEnds p (Ok j) now = SpeaksAs p j → JobStands p j now
StartsOrEnds p (Err e) now = EndsSo p e now
