-- What a journal is read for: one job, by what is asked, the notebook that its input gives, and what else is known of it.
use Rattle.std.specs.Prelude.{◌≡◌, ◌<◌, ℕ, length}
use Rattle.words.specs.declared.ask.Ask.{Ask}
use Rattle.nb_model.specs.declared.notebook.Notebook.{Notebook}
use Rattle.nb_model.specs.Planned.{plan}
use Rattle.nb_model.specs.Prepared.{prepared_notebook}
use Rattle.kernel_talk.specs.Requests.{Identity}
use Rattle.cell_core.specs.declared.machine.Core.{Core}
use Rattle.cell_core.specs.StandsFor.{task_of}
use Rattle.job_notebook.specs.declared.notebook.JobNotebook.{JobNotebook}
use Rattle.job_notebook.specs.State.{merge_of, output_of}
use Rattle.run_journal.specs.Job.{Job}
use Rattle.run_journal.specs.Jupyter.{Speaker}
use Rattle.run_journal.specs.Asked.{Setting, running_job, speaker_of, task_of as asked_task}

-- what is asked, the notebook with its parameters as the input gives it, and what else is known of the job
pub record Plot : Type 0 where
  pub ask : Ask
  pub given : Notebook
  pub setting : Setting

-- the job that runs the notebook
abbrev pub facts : Plot → Job
facts p = running_job p.ask p.setting p.given

-- who speaks to its kernel
abbrev pub speaker : Plot → Speaker
speaker p = speaker_of p.ask p.setting p.given (asked_task p.ask (plan p.given) p.given)

-- the notebook before its cells are executed
abbrev pub first : Plot → Notebook
first p = prepared_notebook p.given

-- The parts of an execution are for that job: its number, the session, the core and the notebook. It has a cell to execute.
pub record IsFor (p : Plot) (number : ℕ) (session : Identity) (core : Core) (book : JobNotebook) : Type 0 where
  pub number_is : number ≡ p.setting.number
  pub session_is : session.name ≡ p.setting.session
  pub key_is : session.key ≡ p.setting.key
  pub task_is : task_of core ≡ (facts p).task
  pub runs : 0 < length (facts p).task.plan
  pub output_is : output_of book ≡ p.ask.output
  pub merge_is : merge_of book ≡ p.ask.merge
