-- What the status of a job says of the cause that stopped it.
use Rattle.std.proofs.Common.{◌≡◌, ℕ, List, Option, Some, None, Result, Ok, Err, sym, ap, subst, ◌∙◌}
use Rattle.std.proofs.Math.Logic.{∥∥₁_elim, ∥∥₁_map, ∥∥₁_prop}
use Rattle.std.specs.Prelude.{IfOk, IfErr}
use Rattle.cell_core.specs.StandsFor.{task_of}
use Rattle.job_run.specs.declared.execution.Execution.{Execution}
use Rattle.job_run.specs.declared.job.Job.{Job}
use Rattle.job_run.specs.declared.paths.Paths.{Paths}
use Rattle.job_run.specs.Task.{task_of_job, output_of_job}
use Rattle.cell_core.specs.declared.why.Why.{Why}
use Rattle.cell_core.specs.declared.why.Why.TheVariants as why
use Rattle.cell_core.specs.Task.{Task}
use Rattle.job_end.specs.declared.answer.Answer.{Answer}
use Rattle.job_end.specs.declared.end.End.{End}
use Rattle.job_end.specs.declared.end.End.TheVariants as end
use Rattle.job_end.specs.Answers.{Answers, said, starved, starved_answer}
use Rattle.job_end.specs.Statuses.{status_of}
use Rattle.job_saves.specs.Course.{IsEndOfRun}
use Rattle.job_saves.specs.Speaking.{IsAnswer}
use Rattle.job_run.specs.Told.{StopsFor, EndsBy, EndsJob, IsEndOfLaunch, StartsBy, IsEnding, IsCaused}

abbrev pub why_in : Why → Option Why → Why
why_in other (Some w) = w
why_in other None = other

-- the cause that a status names
named_cause : (task : Task) (w cause : Why) → Some w ≡ Some cause → StopsFor task w → StopsFor task cause
named_cause task w cause is s = subst (StopsFor task) (ap (why_in w) is) s

pub stop_caused : (task : Task) (e : End) → EndsJob task e → IsCaused task (status_of e)
stop_caused task end.Done s cause is = named_cause task why.Done cause is s
stop_caused task (end.CellError cell name) s cause is = named_cause task why.CellError cause is s
stop_caused task end.NotReady s cause is = named_cause task why.NotReady cause is s
stop_caused task end.KernelLost s cause is = named_cause task why.KernelLost cause is s
stop_caused task (end.TimedOut cell) s cause is = named_cause task why.TimedOut cause is s
stop_caused task (end.NoIdle cell) s cause is = named_cause task why.NoIdle cause is s
stop_caused task (end.BadPeer chan f) s cause is = named_cause task why.BadPeer cause is s
stop_caused task (end.NotRead path) s cause is = absurd s
stop_caused task end.TooLarge s cause is = absurd s
stop_caused task (end.NotLoaded f) s cause is = absurd s
stop_caused task end.NoKernelName s cause is = absurd s
stop_caused task end.BadKernelName s cause is = absurd s
stop_caused task (end.BadSpec f) s cause is = absurd s
stop_caused task end.NotStarted s cause is = absurd s
stop_caused task end.NoConnectionFile s cause is = absurd s
stop_caused task (end.NotSaved f) s cause is = absurd (cc)
stop_caused task end.NoMemory s cause is = absurd (cc)
stop_caused task end.NetFault s cause is = absurd (cc)
stop_caused task end.Spent s cause is = absurd (cc)

pub answer_caused : (task : Task) (output : List ℕ) (e : End) (a : Answer) → Answers output e a → EndsJob task e → IsCaused task a.status
answer_caused task output e _ said s cause is = stop_caused task e s cause is
answer_caused task output e _ starved s cause is = absurd (cc)

pub starved_ends : (output : List ℕ) (task : Task) (a : Answer) → a ≡ starved_answer → IsEnding output task a
starved_ends output task a is = ∣ record { end = end.NoMemory; by = tt; answers = subst (λ x. Answers output end.NoMemory x) (sym is) starved } ∣₁

pub own_end : (task : Task) (e : End) → EndsJob task e → IsEndOfRun e
own_end task end.Done s = tt
own_end task (end.CellError cell name) s = tt
own_end task (end.NotRead path) s = absurd s
own_end task end.TooLarge s = absurd s
own_end task (end.NotLoaded f) s = absurd s
own_end task end.NoKernelName s = absurd s
own_end task end.BadKernelName s = absurd s
own_end task (end.BadSpec f) s = absurd s
own_end task end.NotStarted s = absurd s
own_end task end.NotReady s = tt
own_end task end.KernelLost s = tt
own_end task (end.TimedOut cell) s = tt
own_end task (end.NotSaved f) s = tt
own_end task end.NoConnectionFile s = absurd s
own_end task end.NoMemory s = tt
own_end task (end.NoIdle cell) s = tt
own_end task end.NetFault s = tt
own_end task (end.BadPeer chan f) s = tt
own_end task end.Spent s = tt

-- what ends a run by itself ends its job
pub ends_job : (task : Task) (e : End) → EndsBy task e → EndsJob task e
ends_job task end.Done s = s
ends_job task (end.CellError cell name) s = s
ends_job task (end.NotRead path) s = s
ends_job task end.TooLarge s = s
ends_job task (end.NotLoaded f) s = s
ends_job task end.NoKernelName s = s
ends_job task end.BadKernelName s = s
ends_job task (end.BadSpec f) s = s
ends_job task end.NotStarted s = s
ends_job task end.NotReady s = s
ends_job task end.KernelLost s = s
ends_job task (end.TimedOut cell) s = s
ends_job task (end.NotSaved f) s = s
ends_job task end.NoConnectionFile s = s
ends_job task end.NoMemory s = s
ends_job task (end.NoIdle cell) s = s
ends_job task end.NetFault s = absurd s
ends_job task (end.BadPeer chan f) s = s
ends_job task end.Spent s = absurd s

pub job_ends : {A : Type 0} (task : Task) (r : Result A End) → IfErr r (EndsBy task) → IfErr r (EndsJob task)
job_ends task (Ok a) h = tt
job_ends task (Err e) h = ends_job task e h

-- an end of a run is one of a start
pub starts_by : (task : Task) (e : End) → EndsBy task e → StartsBy task e
starts_by task end.Done s = s
starts_by task (end.CellError cell name) s = s
starts_by task (end.NotRead path) s = s
starts_by task end.TooLarge s = s
starts_by task (end.NotLoaded f) s = s
starts_by task end.NoKernelName s = s
starts_by task end.BadKernelName s = s
starts_by task (end.BadSpec f) s = s
starts_by task end.NotStarted s = absurd s
starts_by task end.NotReady s = s
starts_by task end.KernelLost s = s
starts_by task (end.TimedOut cell) s = s
starts_by task (end.NotSaved f) s = s
starts_by task end.NoConnectionFile s = absurd s
starts_by task end.NoMemory s = s
starts_by task (end.NoIdle cell) s = s
starts_by task end.NetFault s = absurd s
starts_by task (end.BadPeer chan f) s = s
starts_by task end.Spent s = absurd s

-- so is one of the start of its kernel
pub launch_starts : (task : Task) (e : End) → IsEndOfLaunch e → StartsBy task e
launch_starts task end.Done h = absurd h
launch_starts task (end.CellError cell name) h = absurd h
launch_starts task (end.NotRead path) h = absurd h
launch_starts task end.TooLarge h = absurd h
launch_starts task (end.NotLoaded f) h = absurd h
launch_starts task end.NoKernelName h = absurd h
launch_starts task end.BadKernelName h = absurd h
launch_starts task (end.BadSpec f) h = absurd h
launch_starts task end.NotStarted h = tt
launch_starts task end.NotReady h = absurd h
launch_starts task end.KernelLost h = absurd h
launch_starts task (end.TimedOut cell) h = absurd h
launch_starts task (end.NotSaved f) h = absurd h
launch_starts task end.NoConnectionFile h = tt
launch_starts task end.NoMemory h = tt
launch_starts task (end.NoIdle cell) h = absurd h
launch_starts task end.NetFault h = tt
launch_starts task (end.BadPeer chan f) h = absurd h
launch_starts task end.Spent h = absurd h

pub launches : {A : Type 0} (task : Task) (r : Result A End) → IfErr r IsEndOfLaunch → IfErr r (StartsBy task)
launches task (Ok a) h = tt
launches task (Err e) h = launch_starts task e h

pub start_caused : (task : Task) (e : End) → StartsBy task e → IsCaused task (status_of e)
start_caused task end.Done s cause is = stop_caused task end.Done s cause is
start_caused task (end.CellError cell name) s cause is = stop_caused task (end.CellError cell name) s cause is
start_caused task (end.NotRead path) s cause is = absurd s
start_caused task end.TooLarge s cause is = absurd s
start_caused task (end.NotLoaded f) s cause is = absurd s
start_caused task end.NoKernelName s cause is = absurd s
start_caused task end.BadKernelName s cause is = absurd s
start_caused task (end.BadSpec f) s cause is = absurd s
start_caused task end.NotStarted s cause is = absurd (cc)
start_caused task end.NotReady s cause is = stop_caused task end.NotReady s cause is
start_caused task end.KernelLost s cause is = stop_caused task end.KernelLost s cause is
start_caused task (end.TimedOut cell) s cause is = stop_caused task (end.TimedOut cell) s cause is
start_caused task (end.NotSaved f) s cause is = stop_caused task (end.NotSaved f) s cause is
start_caused task end.NoConnectionFile s cause is = absurd (cc)
start_caused task end.NoMemory s cause is = stop_caused task end.NoMemory s cause is
start_caused task (end.NoIdle cell) s cause is = stop_caused task (end.NoIdle cell) s cause is
start_caused task end.NetFault s cause is = absurd (cc)
start_caused task (end.BadPeer chan f) s cause is = stop_caused task (end.BadPeer chan f) s cause is
start_caused task end.Spent s cause is = absurd s

-- ---- the answer of an end of a run

pub ending_caused : (output : List ℕ) (task : Task) (a : Answer) → IsEnding output task a → IsCaused task a.status
ending_caused output task a h cause is = ∥∥₁_elim h ∥∥₁_prop (λ e. answer_caused task output e.end a e.answers e.by cause is)

pub ending_answers : (output to : List ℕ) (task : Task) (a : Answer) → output ≡ to → IsEnding output task a → IsAnswer to a
ending_answers output to task a same h = subst (λ o. IsAnswer o a) same (∥∥₁_map h (λ e. record { end = e.end; answers = e.answers }))

not_start : (task : Task) (e : End) → EndsJob task e → status_of e ≡ 6 → ⊥
not_start task end.Done s is = absurd (cc)
not_start task (end.CellError cell name) s is = absurd (cc)
not_start task (end.NotRead path) s is = s
not_start task end.TooLarge s is = s
not_start task (end.NotLoaded f) s is = s
not_start task end.NoKernelName s is = s
not_start task end.BadKernelName s is = s
not_start task (end.BadSpec f) s is = s
not_start task end.NotStarted s is = s
not_start task end.NotReady s is = absurd (cc)
not_start task end.KernelLost s is = absurd (cc)
not_start task (end.TimedOut cell) s is = absurd (cc)
not_start task (end.NotSaved f) s is = absurd (cc)
not_start task end.NoConnectionFile s is = s
not_start task end.NoMemory s is = absurd (cc)
not_start task (end.NoIdle cell) s is = absurd (cc)
not_start task end.NetFault s is = absurd (cc)
not_start task (end.BadPeer chan f) s is = absurd (cc)
not_start task end.Spent s is = absurd (cc)

not_six : (task : Task) (output : List ℕ) (e : End) (a : Answer) → Answers output e a → EndsJob task e → a.status ≡ 6 → ⊥
not_six task output e _ said s is = not_start task e s is
not_six task output e _ starved s is = absurd (cc)

-- no run ends as a start that failed does
pub ending_starts : (output : List ℕ) (task : Task) (a : Answer) → IsEnding output task a → a.status ≡ 6 → ⊥
ending_starts output task a h is = ∥∥₁_elim h (λ x y. absurd x) (λ e. not_six task output e.end a e.answers e.by is)

-- ---- a job that was made of its parts

pub of_run : {E : Type 0} (r : Result Job E) (j : Job) (x : Execution) (task : Task) → j.run ≡ x → task_of x.core ≡ task → IfOk r (λ k. task_of_job k ≡ task_of_job j)
    → IfOk r (λ k. task_of_job k ≡ task)
of_run (Ok k) j x task run is same = same ∙ ap (λ (y : Execution). task_of y.core) run ∙ is
of_run (Err e) j x task run is same = tt

pub at_paths : {E : Type 0} (r : Result Job E) (j : Job) (paths : Paths) → j.paths ≡ paths → IfOk r (λ k. output_of_job k ≡ output_of_job j) → IfOk r (λ k. output_of_job k ≡ paths.output)
at_paths (Ok k) j paths is same = same ∙ ap (λ (p : Paths). p.output) is
at_paths (Err e) j paths is same = tt
