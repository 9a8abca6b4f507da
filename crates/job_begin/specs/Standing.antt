-- What a job stands for when it has begun, by the journal of its world. It holds of jobs that want no interrupts.
use Rattle.std.specs.Prelude.{◌≡◌, ℕ, false, List, Result, Ok, Err}
use Rattle.nb_model.specs.declared.notebook.Notebook.{Notebook}
use Rattle.words.specs.declared.ask.Ask.{Ask}
use Rattle.world.specs.declared.entry.Entry.{Entry}
use Rattle.job_end.specs.declared.answer.Answer.{Answer}
use Rattle.job_journal.specs.Ended.{HasAnswered}
use Rattle.job_journal.specs.Plot.{Plot}
use Rattle.job_run.specs.declared.job.Job.{Job}
use Rattle.job_run.specs.Beginning.{HasSession, IsFresh, IsPlotOf, SpeaksAs}
use Rattle.job_run.specs.JobStanding.{JobStands}

-- A plot is of the job of this number that is asked for so, with this notebook with its parameters. The job executes cells.
pub record IsPlotWith (p : Plot) (number : ℕ) (a : Ask) (n : Notebook) : Type 0 where
  pub number_is : number ≡ p.setting.number
  pub ask_is : p.ask ≡ a
  pub given_is : p.given ≡ n
  pub executes : a.prepare ≡ false

-- The job of a plot is to begin with this notebook, and it executes cells. Nothing has happened to it yet.
pub record IsToBeginWith (p : Plot) (number : ℕ) (a : Ask) (first : Notebook) (now : List Entry) : Type 0 where
  pub plot : IsPlotOf p number a first
  pub executes : a.prepare ≡ false
  pub fresh : IsFresh p now

-- The job of a plot has begun so. Where it runs and speaks in the plot's session, it stands for the journal. Where it has ended, it has ended with
-- this answer by the journal.
abbrev pub BeginsAsPlot : Plot → Result Job Answer → List Entry → Type 0
BeginsAsPlot p (Ok j) now = SpeaksAs p j → JobStands p j now
BeginsAsPlot p (Err answer) now = HasAnswered p answer now

-- where a job runs, it speaks in the session and under the key that were drawn for it since a moment
abbrev pub BeginsSpeaking : {E : Type 0} → ℕ → List ℕ → Result Job E → List Entry → List Entry → Type 0
BeginsSpeaking number output (Ok j) before after = HasSession number output j before after
BeginsSpeaking number output (Err e) before after = Unit {0}

-- Whatever plot a job with this notebook has, to which nothing had happened before its begin: the job stands for the journal where it runs and
-- speaks in the plot's session. Where it has ended, it has ended with this answer by the journal.
abbrev pub BeginsFollowing : ℕ → Ask → Notebook → Result Job Answer → List Entry → List Entry → Type 0
BeginsFollowing number a n result before after = (p : Plot) → IsPlotWith p number a n → IsFresh p before → BeginsAsPlot p result after
