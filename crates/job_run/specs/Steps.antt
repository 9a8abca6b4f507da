-- What a step of an execution leaves: of the execution, of its notebook and of the world.
use Rattle.std.specs.Prelude.{◌≡◌, List, true, Option, Result, OnOk, IfErr}
use Rattle.world.specs.declared.entry.Entry.{Entry}
use Rattle.world.specs.Counts.{Counts}
use Rattle.world.specs.Moments.{Told, Since}
use Rattle.world.specs.Parts.{IsNotOf, OnClock}
use Rattle.cell_core.specs.declared.act.Act.{Act}
use Rattle.cell_core.specs.StandsFor.{task_of}
use Rattle.job_end.specs.declared.end.End.{End}
use Rattle.job_notebook.specs.declared.notebook.JobNotebook.{JobNotebook}
use Rattle.job_notebook.specs.State.{output_of}
use Rattle.job_saves.specs.Course.{Origin, Stands, GoesOn, CallsOwn, stays_open}
use Rattle.job_saves.specs.Sessions.{IsSaveCall}
use Rattle.job_run.specs.Counted.{IsCountedAt, CountsOn}
use Rattle.job_run.specs.Held.{Holds, IsCalm}
use Rattle.job_run.specs.JobStanding.{KeepsStanding}
use Rattle.job_run.specs.Run.{KeepsRun, KeepsRole, RunsOn, CallsInRole, EndsNot, EndsOnce, outcome_of}
use Rattle.job_run.specs.Task.{task_of_job, output_of_job, pings_kernel}
use Rattle.job_run.specs.Told.{EndsBy}
use Rattle.job_run.specs.declared.execution.Execution.{Execution}
use Rattle.job_run.specs.declared.job.Job.{Job}

-- no call reads the clock since
abbrev pub ReadsNoClock : {W : Type 0} → (W → Option (List Entry)) → W → W → Type 0
ReadsNoClock journal old new = Told (journal old) (journal new) (Since (IsNotOf OnClock))

-- A step that did this act goes on with what stood before it, and was answered so. It may read the clock, as the first one of a job does.
pub record ProceedsFirst {W U : Type 0} (journal : W → Option (List Entry)) (tally : W → Counts) (old new : W) (was now : Execution) (act : Act) (result : Result U End) : Type 0 where
  -- the parts of the execution agree
  pub holds : Holds now
  -- no save is awaited where the job goes on
  pub calm : OnOk result (IsCalm now)
  -- its saves go on with the course of the job
  pub course : GoesOn journal tally old new was.book now.book (stays_open result)
  -- its calls are those of the job
  pub calls : CallsOwn journal tally old new was.book now.book
  -- the core has the task that it had
  pub task : task_of now.core ≡ task_of was.core
  -- what is asked of it stays
  pub terms : now.terms ≡ was.terms
  -- where the job ends, it ends as a run does
  pub own : IfErr result (EndsBy (task_of now.core))
  -- the core was told of as many saves as were acknowledged, and they left what it has asked for, where it was so
  pub counts : (o : Origin) → o.is_watched ≡ true → Stands o was.book true (journal old) (tally old) → IsCountedAt o was act (journal old) → CountsOn o now result (journal new)

-- The same of a step that doesn't read the clock.
pub record Proceeds {W U : Type 0} (journal : W → Option (List Entry)) (tally : W → Counts) (old new : W) (was now : Execution) (act : Act) (result : Result U End) : Type 0 where
  pub step : ProceedsFirst journal tally old new was now act result
  -- its calls are none of the clock
  pub clock : ReadsNoClock journal old new

-- all that was asked of the world is saves of this notebook, lines that were said and readings of the clock
abbrev pub OnlySaves : {W : Type 0} → (W → Option (List Entry)) → W → W → JobNotebook → Type 0
OnlySaves journal old new book = Told (journal old) (journal new) (Since (IsSaveCall (output_of book)))

-- a job is to do what it was, and it isn't ended from outside
pub record JobKeeps (was now : Job) : Type 0 where
  -- the task of its core is the one that it was
  pub task : task_of_job now ≡ task_of_job was
  -- its kernel is pinged where it was
  pub pings : pings_kernel now ≡ pings_kernel was
  -- the output that its last line names is the one that it was
  pub output : output_of_job now ≡ output_of_job was
  -- it was ended from outside only where it had been
  pub still : EndsNot was now

-- what a job is told without a call of the world leaves it as it stands
pub record JobStays (was now : Job) : Type 0 where
  -- it stays on its course
  pub course : KeepsRun was now
  -- it has made no calls but its own
  pub calls : KeepsRole was now
  -- what it is to do stays
  pub keeps : JobKeeps was now
  -- it has ended as it had, or goes on
  pub outcome : outcome_of now ≡ outcome_of was
  -- it stands for each journal for which it stood
  pub stands : KeepsStanding was now

-- what a job is told with calls of the world, and is answered so, goes on with what stood of it
pub record JobGoesOn {W U E : Type 0} (journal : W → Option (List Entry)) (tally : W → Counts) (old new : W) (was now : Job) (result : Result U E) : Type 0 where
  -- its saves go on with its course
  pub course : RunsOn journal tally old new was now
  -- the calls are its own
  pub calls : CallsInRole journal tally old new was now
  -- none of them is of the clock
  pub clock : ReadsNoClock journal old new
  -- what it is to do stays
  pub keeps : JobKeeps was now
  -- it ends at most once, and where memory is refused it has ended by that
  pub ends : EndsOnce (outcome_of was) (outcome_of now) result
