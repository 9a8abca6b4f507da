-- How many saves the core of a job was told of, and what they left, over its calls.
use Rattle.std.proofs.Common.{◌≡◌, ◌≤◌, ℕ, Bool, true, false, List, Option, Some, None, Result, Ok, Err, sym, ap, subst, ◌∙◌}
use Rattle.std.specs.Prelude.{is_some, IfSome, IfErr}
use Rattle.world.specs.declared.entry.Entry.{Entry}
use Rattle.world.specs.Moments.{Since, Told}
use Rattle.world.specs.Touched.{Spares}
use Rattle.save_disk.specs.Places.{save_count}
use Rattle.save_course.specs.Course.{IsRested}
use Rattle.cell_core.specs.declared.act.Act.TheVariants.{Nothing}
use Rattle.cell_core.specs.StandsFor.{task_of}
use Rattle.cell_core.specs.Task.{Task}
use Rattle.job_end.specs.declared.answer.Answer.{Answer}
use Rattle.job_end.specs.Answers.{Answers, said, starved, starved_answer}
use Rattle.job_end.specs.Statuses.{status_of}
use Rattle.job_end.specs.declared.end.End.{End}
use Rattle.job_end.specs.declared.end.End.TheVariants as end
use Rattle.job_notebook.specs.declared.notebook.JobNotebook.{JobNotebook}
use Rattle.world.specs.Counts.{Counts}
use Rattle.job_saves.specs.Course.{Origin, IsSaved, IsOnCourse, Begins}
use Rattle.job_saves.proofs.CourseLemmas.{told_as}
use Rattle.job_saves.specs.Left.{OutputAt, output_at, acks_at}
use Rattle.job_saves.proofs.LeftLemmas.{spared_left}
use Rattle.job_saves.proofs.TellingLemmas.{spared_count}
use Rattle.job_run.specs.Counted.{IsCounted, IsCountedIn, IsCountedOn, IsCountedBy, IsCausedAfter, IsCountedAt, CountsOn, EndsAfter, EndsJobAfter, StartsAfter}
use Rattle.job_run.specs.Run.{IsNew, BeginsNew, StartsCounted, CountsAll}
use Rattle.job_run.specs.Told.{IsOutside, IsEndOfLaunch, EndsJob}
use Rattle.job_run.proofs.CountLemmas.{end_caused, later_counts, starved_after, in_later}
use Rattle.job_run.specs.declared.execution.Execution.{Execution}

-- ---- calls that don't touch the output

pub count_passes : (o : Origin) (b : JobNotebook) (is_open : Bool) (x : Execution) (out : Option Answer) (i k : Option (List Entry)) → Told i k (Since (Spares o.output))
    → IfSome i (IsOnCourse o b is_open) → IfSome i (λ past. IsCountedIn out x (output_at o past)) → IfSome k (λ past. IsCountedIn out x (output_at o past))
count_passes o b is_open x out i None told on h = tt
count_passes o b is_open x out None (Some q) told on h = absurd told.so
count_passes o b is_open x out (Some p) (Some q) told on h = in_later out x (output_at o p) (output_at o q) (spared_left o on.is.rested told.so) h

-- before the first save
pub new_passes : (o : Origin) (i k : Option (List Entry)) → (o.is_watched ≡ true → IfSome i (IsRested o.output)) → Told i k (Since (Spares o.output)) → BeginsNew o i → BeginsNew o k
new_passes o i None rested told h fresh = tt
new_passes o None (Some q) rested told h fresh = absurd told.so
new_passes o (Some p) (Some q) rested told h fresh = spared_count o.output (rested fresh.watched) told.so ∙ h fresh

pub begins_rested : (o : Origin) (j : Option (List Entry)) (c : Counts) → Begins o j c → o.is_watched ≡ true → IfSome j (IsRested o.output)
begins_rested o j c b on = told_as j (IsSaved o true 0) (IsRested o.output) (λ past h. h.rested) (b.told on)

-- ---- a job that runs

runs_count : (out : Option Answer) (x : Execution) (n : OutputAt) → is_some out ≡ false → IsCountedIn out x n → IsCounted x Nothing n
runs_count None x n running h = h
runs_count (Some a) x n running h = absurd (cc)

pub running_count : (out : Option Answer) (x : Execution) (o : Origin) (j : Option (List Entry)) → is_some out ≡ false → IfSome j (λ past. IsCountedIn out x (output_at o past))
    → IfSome j (λ past. IsCounted x Nothing (output_at o past))
running_count out x o None running h = tt
running_count out x o (Some past) running h = runs_count out x (output_at o past) running h

-- what ends a run ends its job
job_after : (n : OutputAt) (task : Task) (e : End) → EndsAfter n task e → EndsJobAfter n task e
job_after n task end.Done s = s
job_after n task (end.CellError cell name) s = s
job_after n task (end.NotRead path) s = s
job_after n task end.TooLarge s = s
job_after n task (end.NotLoaded f) s = s
job_after n task end.NoKernelName s = s
job_after n task end.BadKernelName s = s
job_after n task (end.BadSpec f) s = s
job_after n task end.NotStarted s = s
job_after n task end.NotReady s = s
job_after n task end.KernelLost s = s
job_after n task (end.TimedOut cell) s = s
job_after n task (end.NotSaved f) s = s
job_after n task end.NoConnectionFile s = s
job_after n task end.NoMemory s = s
job_after n task (end.NoIdle cell) s = s
job_after n task end.NetFault s = absurd s
job_after n task (end.BadPeer chan f) s = s
job_after n task end.Spent s = absurd s

by_run : (x : Execution) (r : Result (Unit {0}) End) (n : OutputAt) → IsCountedOn x r n → IsCountedBy x r n
by_run x (Ok u) n h = h
by_run x (Err e) n h = job_after n (task_of x.core) e h

-- calls of its execution, and what is made of their answer
pub turn_counts : (o : Origin) (was mid now : Execution) (r : Result (Unit {0}) End) (out : Option Answer) (j k : Option (List Entry)) → (IsCountedAt o was Nothing j → CountsOn o mid r k)
    → ((n : OutputAt) → IsCountedBy mid r n → IsCountedIn out now n) → IfSome j (λ past. IsCounted was Nothing (output_at o past)) → IfSome k (λ past. IsCountedIn out now (output_at o past))
turn_counts o was mid now r out j k goes ends h =
    told_as k (λ past. IsCountedOn mid r (output_at o past)) (λ past. IsCountedIn out now (output_at o past))
    (λ past i. ends (output_at o past) (by_run mid r (output_at o past) i)) (goes h)

-- ---- an end from outside

pub outside_job : (task : Task) (e : End) → IsOutside e → EndsJob task e
outside_job task end.Done h = absurd h
outside_job task (end.CellError cell name) h = absurd h
outside_job task (end.NotRead path) h = absurd h
outside_job task end.TooLarge h = absurd h
outside_job task (end.NotLoaded f) h = absurd h
outside_job task end.NoKernelName h = absurd h
outside_job task end.BadKernelName h = absurd h
outside_job task (end.BadSpec f) h = absurd h
outside_job task end.NotStarted h = absurd h
outside_job task end.NotReady h = absurd h
outside_job task end.KernelLost h = absurd h
outside_job task (end.TimedOut cell) h = absurd h
outside_job task (end.NotSaved f) h = absurd h
outside_job task end.NoConnectionFile h = absurd h
outside_job task end.NoMemory h = absurd h
outside_job task (end.NoIdle cell) h = absurd h
outside_job task end.NetFault h = tt
outside_job task (end.BadPeer chan f) h = absurd h
outside_job task end.Spent h = tt

pub outside_after : (n : OutputAt) (task : Task) (e : End) → IsOutside e → EndsJobAfter n task e
outside_after n task end.Done h = absurd h
outside_after n task (end.CellError cell name) h = absurd h
outside_after n task (end.NotRead path) h = absurd h
outside_after n task end.TooLarge h = absurd h
outside_after n task (end.NotLoaded f) h = absurd h
outside_after n task end.NoKernelName h = absurd h
outside_after n task end.BadKernelName h = absurd h
outside_after n task (end.BadSpec f) h = absurd h
outside_after n task end.NotStarted h = absurd h
outside_after n task end.NotReady h = absurd h
outside_after n task end.KernelLost h = absurd h
outside_after n task (end.TimedOut cell) h = absurd h
outside_after n task (end.NotSaved f) h = absurd h
outside_after n task end.NoConnectionFile h = absurd h
outside_after n task end.NoMemory h = absurd h
outside_after n task (end.NoIdle cell) h = absurd h
outside_after n task end.NetFault h = tt
outside_after n task (end.BadPeer chan f) h = absurd h
outside_after n task end.Spent h = tt

pub end_counts : (o : Origin) (was now : Execution) (e : End) (out : Option Answer) (j : Option (List Entry)) → IsOutside e
    → ((n : OutputAt) → EndsJobAfter n (task_of was.core) e → IsCountedIn out now n) → IfSome j (λ past. IsCounted was Nothing (output_at o past)) → IfSome j (λ past. IsCountedIn out now (output_at o past))
end_counts o was now e out j outside ends h =
    told_as j (λ past. IsCounted was Nothing (output_at o past)) (λ past. IsCountedIn out now (output_at o past))
    (λ past i. ends (output_at o past) (outside_after (output_at o past) (task_of was.core) e outside)) h

-- ---- the end

abbrev pub task_in : Task → Option Task → Task
task_in other None = other
task_in other (Some t) = t

pub ended_count : (o : Origin) (x : Execution) (a : Answer) (own t : Task) (j : Option (List Entry)) → own ≡ task_of x.core → Some own ≡ Some t
    → IfSome j (λ past. IsCountedIn (Some a) x (output_at o past)) → IfSome j (λ past. IsCausedAfter (output_at o past) t a.status)
ended_count o x a own t j at same h =
    subst (λ q. IfSome j (λ past. IsCausedAfter (output_at o past) q a.status)) (sym at ∙ ap (task_in own) same) h

pub starved_count : (o : Origin) (a : Answer) (t : Task) (j : Option (List Entry)) → a ≡ starved_answer → IfSome j (λ past. IsCausedAfter (output_at o past) t a.status)
starved_count o a t None is = tt
starved_count o a t (Some past) is = starved_after (output_at o past) t a is

at_new : (o : Origin) (x : Execution) (j : Option (List Entry)) → ((n : OutputAt) → acks_at n ≡ 0 → IsCounted x Nothing n) → IfSome j (λ past. save_count o.output past ≡ 0) → IsCountedAt o x Nothing j
at_new o x j counted none =
    told_as j (λ past. save_count o.output past ≡ 0) (λ past. IsCounted x Nothing (output_at o past)) (λ past is. counted (output_at o past) is) none

-- the first save of a job, of which nothing was told before
pub first_counts : (o : Origin) (x y : Execution) (j k : Option (List Entry)) → ((n : OutputAt) → acks_at n ≡ 0 → IsCounted x Nothing n) → BeginsNew o j
    → (IsNew o → IsCountedAt o x Nothing j → IsCountedAt o y Nothing k) → CountsAll o None y k
first_counts o x y j k counted begins goes fresh = goes fresh (at_new o x j counted (begins fresh))

-- ---- the end of a start

launch_after : (n : OutputAt) (task : Task) (e : End) → IsEndOfLaunch e → StartsAfter n task e
launch_after n task end.Done h = absurd h
launch_after n task (end.CellError cell name) h = absurd h
launch_after n task (end.NotRead path) h = absurd h
launch_after n task end.TooLarge h = absurd h
launch_after n task (end.NotLoaded f) h = absurd h
launch_after n task end.NoKernelName h = absurd h
launch_after n task end.BadKernelName h = absurd h
launch_after n task (end.BadSpec f) h = absurd h
launch_after n task end.NotStarted h = tt
launch_after n task end.NotReady h = absurd h
launch_after n task end.KernelLost h = absurd h
launch_after n task (end.TimedOut cell) h = absurd h
launch_after n task (end.NotSaved f) h = absurd h
launch_after n task end.NoConnectionFile h = tt
launch_after n task end.NoMemory h = tt
launch_after n task (end.NoIdle cell) h = absurd h
launch_after n task end.NetFault h = tt
launch_after n task (end.BadPeer chan f) h = absurd h
launch_after n task end.Spent h = absurd h

pub launch_counted : (o : Origin) (task : Task) (j : Option (List Entry)) (e : End) → IsEndOfLaunch e → StartsCounted o task j e
launch_counted o task None e h fresh = tt
launch_counted o task (Some past) e h fresh = launch_after (output_at o past) task e h

pub launches_counted : {A : Type 0} (o : Origin) (task : Task) (j : Option (List Entry)) (r : Result A End) → IfErr r IsEndOfLaunch → IfErr r (StartsCounted o task j)
launches_counted o task j (Ok a) h = tt
launches_counted o task j (Err e) h = launch_counted o task j e h

run_after : (n : OutputAt) (task : Task) (e : End) → EndsAfter n task e → StartsAfter n task e
run_after n task end.Done s = s
run_after n task (end.CellError cell name) s = s
run_after n task (end.NotRead path) s = s
run_after n task end.TooLarge s = s
run_after n task (end.NotLoaded f) s = s
run_after n task end.NoKernelName s = s
run_after n task end.BadKernelName s = s
run_after n task (end.BadSpec f) s = s
run_after n task end.NotStarted s = absurd s
run_after n task end.NotReady s = s
run_after n task end.KernelLost s = s
run_after n task (end.TimedOut cell) s = s
run_after n task (end.NotSaved f) s = s
run_after n task end.NoConnectionFile s = absurd s
run_after n task end.NoMemory s = s
run_after n task (end.NoIdle cell) s = s
run_after n task end.NetFault s = absurd s
run_after n task (end.BadPeer chan f) s = s
run_after n task end.Spent s = s

-- the first save and the first look at the clock end a job so
pub first_ends : (o : Origin) (x y : Execution) (task : Task) (j k : Option (List Entry)) (e : End) → task_of y.core ≡ task → ((n : OutputAt) → acks_at n ≡ 0 → IsCounted x Nothing n)
    → BeginsNew o j → (IsNew o → IsCountedAt o x Nothing j → IfSome k (λ past. EndsAfter (output_at o past) (task_of y.core) e)) → StartsCounted o task k e
first_ends o x y task j k e at counted begins goes fresh =
    told_as k (λ past. EndsAfter (output_at o past) task e) (λ past. StartsAfter (output_at o past) task e) (λ past s. run_after (output_at o past) task e s)
    (subst (λ t. IfSome k (λ past. EndsAfter (output_at o past) t e)) at (goes fresh (at_new o x j counted (begins fresh))))

-- the answer of a start that ended so
start_status : (n : OutputAt) (task : Task) (e : End) → StartsAfter n task e → IsCausedAfter n task (status_of e)
start_status n task end.Done s = end_caused n task end.Done s
start_status n task (end.CellError cell name) s = end_caused n task (end.CellError cell name) s
start_status n task (end.NotRead path) s = end_caused n task (end.NotRead path) s
start_status n task end.TooLarge s = end_caused n task end.TooLarge s
start_status n task (end.NotLoaded f) s = end_caused n task (end.NotLoaded f) s
start_status n task end.NoKernelName s = end_caused n task end.NoKernelName s
start_status n task end.BadKernelName s = end_caused n task end.BadKernelName s
start_status n task (end.BadSpec f) s = end_caused n task (end.BadSpec f) s
start_status n task end.NotStarted s = λ cause is. absurd (cc)
start_status n task end.NotReady s = end_caused n task end.NotReady s
start_status n task end.KernelLost s = end_caused n task end.KernelLost s
start_status n task (end.TimedOut cell) s = end_caused n task (end.TimedOut cell) s
start_status n task (end.NotSaved f) s = end_caused n task (end.NotSaved f) s
start_status n task end.NoConnectionFile s = λ cause is. absurd (cc)
start_status n task end.NoMemory s = end_caused n task end.NoMemory s
start_status n task (end.NoIdle cell) s = end_caused n task (end.NoIdle cell) s
start_status n task end.NetFault s = λ cause is. absurd (cc)
start_status n task (end.BadPeer chan f) s = end_caused n task (end.BadPeer chan f) s
start_status n task end.Spent s = absurd s

pub start_after : (n : OutputAt) (task : Task) (output : List ℕ) (e : End) (a : Answer) → Answers output e a → StartsAfter n task e → IsCausedAfter n task a.status
start_after n task output e _ said s = start_status n task e s
start_after n task output e _ starved s = λ cause is. absurd (cc)

-- ---- the clock of an execution is turned

turned_in : (out : Option Answer) (x y : Execution) (n : OutputAt) → y.core ≡ x.core → x.clock ≤ y.clock → y.broken ≡ x.broken → IsCountedIn out x n → IsCountedIn out y n
turned_in None x y n core later broken i = later_counts x y n core later broken i
turned_in (Some a) x y n core later broken i = subst (λ k. IsCausedAfter n (task_of k) a.status) (sym core) i

pub turned_counts : (o : Origin) (out : Option Answer) (x y : Execution) (j : Option (List Entry)) → y.core ≡ x.core → x.clock ≤ y.clock → y.broken ≡ x.broken
    → IfSome j (λ past. IsCountedIn out x (output_at o past)) → IfSome j (λ past. IsCountedIn out y (output_at o past))
turned_counts o out x y j core later broken h =
    told_as j (λ past. IsCountedIn out x (output_at o past)) (λ past. IsCountedIn out y (output_at o past)) (λ past i. turned_in out x y (output_at o past) core later broken i) h
