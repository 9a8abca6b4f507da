-- What a job is to execute, and in which times.
use Rattle.std.specs.Prelude.{◌≡◌, ℕ, Bool, List, length}
use Rattle.nb_model.specs.declared.notebook.Notebook.{Notebook}
use Rattle.nb_model.specs.Planned.{plan}
use Rattle.words.specs.declared.ask.Ask.{Ask}
use Rattle.cell_core.specs.declared.times.Times.{Times}
use Rattle.cell_core.specs.StandsFor.{task_of}
use Rattle.cell_core.specs.Task.{Task}
use Rattle.job_run.specs.declared.job.Job.{Job}
use Rattle.job_run.specs.declared.terms.Terms.{Terms}

-- what the core of this job is to execute
abbrev pub task_of_job : Job → Task
task_of_job j = task_of j.run.core

-- where it saves its notebook
abbrev pub output_of_job : Job → List ℕ
output_of_job j = j.paths.output

-- the ports of its kernel, for shell, iopub, stdin, control and heartbeat
abbrev pub ports_of_job : Job → List ℕ
ports_of_job j = j.ports

-- whether its kernel is pinged
abbrev pub pings_kernel : Job → Bool
pings_kernel j = j.run.terms.heartbeat

-- what is asked of its execution
abbrev pub terms_of_job : Job → Terms
terms_of_job j = j.run.terms

-- the times that were asked for
abbrev pub times_of : Ask → Times
times_of a = record { start_ms = a.start_ms; limit_ms = a.limit_ms; interrupt = a.interrupt }

-- the cells of this notebook that are executed, in these times
abbrev pub task_in : Times → Notebook → Task
task_in times n = record { plan = plan n; cells = length n.cells; times = times }

-- the cells of this notebook that are executed, in the times that were asked for
abbrev pub task_for : Ask → Notebook → Task
task_for a n = task_in (times_of a) n

-- an execution is told what this asks of it: which errors don't stop it, whether its kernel is pinged, whether neighbouring
-- outputs of one stream are joined, and its times
pub record AreTermsOf (a : Ask) (t : Terms) : Type 0 where
  pub errors : t.all_errors ≡ a.all_errors
  pub names : t.names ≡ a.names
  pub pings : t.heartbeat ≡ a.heartbeat
  pub merge : t.merge ≡ a.merge
  pub times : t.times ≡ times_of a
