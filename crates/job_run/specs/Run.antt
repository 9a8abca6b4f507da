-- What a job makes of the world while it runs.
use Rattle.std.specs.Prelude.{◌≡◌, ◌⊎◌, ℕ, List, Bool, true, false, Option, Some, None, IfSome, IfErr, is_some, OnOk, OnErr, Result, Ok, Err}
use Rattle.std.specs.Str.{bytes_eq}
use Rattle.world.specs.declared.entry.Entry.{Entry}
use Rattle.world.specs.Counts.{Counts, CountsGrow, Rose}
use Rattle.world.specs.Save.{temporary_of}
use Rattle.words.specs.declared.ask.Ask.{Ask}
use Rattle.words.specs.Paths.{connection_of}
use Rattle.kernel_start.specs.declared.kernel.Kernel.{Kernel}
use Rattle.kernel_start.specs.declared.random_words.RandomPairs.{RandomPairs}
use Rattle.job_end.specs.declared.answer.Answer.{Answer}
use Rattle.job_end.specs.declared.end.End.{End}
use Rattle.job_end.specs.declared.end.End.TheVariants as end
use Rattle.job_saves.specs.Course.{Origin, Stands, Ends, HasCalled, LacksSaves, HasOnlyRead, HasPart, keeps_open, stays_open}
use Rattle.job_saves.specs.Left.{output_at}
use Rattle.nb_model.specs.declared.notebook.Notebook.{Notebook}
use Rattle.job_saves.specs.Calls.{Cast, IsReady}
use Rattle.job_saves.specs.Children.{HasEnd, AsksNone, ports_of}
use Rattle.job_saves.specs.Reads.{IsKernelOf}
use Rattle.job_saves.specs.Sessions.{HasDrawn, HasAsked, key_of}
use Rattle.job_notebook.specs.State.{output_of}
use Rattle.save_disk.specs.Places.{save_count}
use Rattle.cell_core.specs.Task.{Task}
use Rattle.job_run.specs.Counted.{IsCountedIn, IsCausedAfter, StartsAfter}
use Rattle.job_run.specs.Told.{IsEndOfLaunch}
use Rattle.job_run.specs.declared.execution.Execution.{Execution}
use Rattle.job_run.specs.declared.job.Job.{Job}
use Rattle.job_run.specs.declared.paths.Paths.{Paths}

-- a status that comes where a save has failed: that of the save, or that of memory that was wanted for its line
abbrev pub IsUnsaved : ℕ → Type 0
IsUnsaved status = (status ≡ 10) ⊎ (status ≡ 12)

-- the job has ended with a status that comes where a save has failed
abbrev pub HasEnded : Option Answer → Type 0
HasEnded None = ⊥
HasEnded (Some answer) = IsUnsaved answer.status

-- a status that comes only where a call of the disk failed
abbrev pub IsFileStatus : ℕ → Type 0
IsFileStatus status = (status ≡ 3) ⊎ (status ≡ 10)

-- the job has ended with a status that comes only where a call of the disk failed
abbrev pub HasFailed : Option Answer → Type 0
HasFailed None = ⊥
HasFailed (Some answer) = IsFileStatus answer.status

-- the job has ended by the network
abbrev pub IsLost : Option Answer → Type 0
IsLost None = ⊥
IsLost (Some answer) = answer.status ≡ 14

-- the job has ended by the budget of turns
abbrev pub IsSpent : Option Answer → Type 0
IsSpent None = ⊥
IsSpent (Some answer) = answer.status ≡ 16

-- the job has ended for want of memory
abbrev pub HasStarved : Option Answer → Type 0
HasStarved None = ⊥
HasStarved (Some answer) = answer.status ≡ 12

-- A job is told something, which is answered so: how it has ended stays, and memory is refused exactly where that ends the job.
pub record EndsOnce {U E : Type 0} (was now : Option Answer) (result : Result U E) : Type 0 where
  pub over : is_some was ≡ true → now ≡ was
  pub starved : OnErr result (HasStarved now)
  pub fed : OnOk result (HasStarved now → HasStarved was)

-- a call ends the job neither by the network nor by the budget of turns
pub record EndsNot (was now : Job) : Type 0 where
  pub lost : IsLost now.outcome → IsLost was.outcome
  pub spent : IsSpent now.outcome → IsSpent was.outcome

-- the number of a job
abbrev pub number_of : Job → ℕ
number_of j = j.number

-- how a job ended, if it has
abbrev pub outcome_of : Job → Option Answer
outcome_of j = j.outcome

-- the journal of a job is told, and no save of its output was acknowledged before its begin
pub record IsNew (o : Origin) : Type 0 where
  pub watched : o.is_watched ≡ true
  pub none : save_count o.output o.before ≡ 0

-- a job that hasn't saved yet: none was acknowledged since either
abbrev pub BeginsNew : Origin → Option (List Entry) → Type 0
BeginsNew o journal = IsNew o → IfSome journal (λ past. save_count o.output past ≡ 0)

-- a start that ended so: of the events that brought the end as many are saves as were acknowledged, and they left what it asks for
abbrev pub StartsCounted : Origin → Task → Option (List Entry) → End → Type 0
StartsCounted o task journal e = IsNew o → IfSome journal (λ past. StartsAfter (output_at o past) task e)

-- of the events that a job was told, or that brought its end, as many are saves as were acknowledged, and they left what it asks for
abbrev pub CountsAll : Origin → Option Answer → Execution → Option (List Entry) → Type 0
CountsAll o outcome x journal = IsNew o → IfSome journal (λ past. IsCountedIn outcome x (output_at o past))

-- a job that began so stands on its course; where a save has failed it has ended, and by that status only there
pub record Runs (o : Origin) (j : Job) (journal : Option (List Entry)) (counts : Counts) : Type 0 where
  pub is_open : Bool
  pub stands : Stands o j.run.book is_open journal counts
  pub apart : bytes_eq j.paths.connection o.output ≡ false
  pub shut : is_open ≡ false → HasEnded j.outcome
  pub fails : HasFailed j.outcome → is_open ≡ false
  pub counted : CountsAll o j.outcome j.run journal

-- calls go on with the course of the job, whatever it began with
abbrev pub RunsOn : {W : Type 0} → (W → Option (List Entry)) → (W → Counts) → W → W → Job → Job → Type 0
RunsOn journal counts old new was now = (o : Origin) → Runs o was (journal old) (counts old) → Runs o now (journal new) (counts new)

-- a call of the job alone keeps it on its course
abbrev pub KeepsRun : Job → Job → Type 0
KeepsRun was now = (o : Origin) (journal : Option (List Entry)) (counts : Counts) → Runs o was journal counts → Runs o now journal counts

-- The job has ended with this answer; where that says that the disk failed, its count has risen. Where its run of this task
-- has ended, of the events that brought it as many are saves as were acknowledged, and they left what its cause asks for.
pub record EndsWith (o : Origin) (task : Option Task) (answer : Answer) (journal : Option (List Entry)) (counts : Counts) : Type 0 where
  pub is_open : Bool
  pub ends : Ends o is_open journal counts
  pub shut : is_open ≡ false → IsUnsaved answer.status
  pub fails : IsFileStatus answer.status → Rose o.counts.disk counts.disk
  pub counted : (t : Task) → task ≡ Some t → IsNew o → IfSome journal (λ past. IsCausedAfter (output_at o past) t answer.status)

-- a job of this number and these paths is one of a cast
pub record IsRole (c : Cast) (number : ℕ) (paths : Paths) : Type 0 where
  pub ask : Ask
  pub has : c.job number ≡ Some ask
  pub connection : paths.connection ≡ connection_of ask.output
  pub folder : paths.cwd ≡ ask.cwd

-- since that moment all calls were of the jobs of a cast, and this job is one of them
pub record HasRole (c : Cast) (since : List Entry) (from : Counts) (j : Job) (journal : Option (List Entry)) (counts : Counts) : Type 0 where
  pub part : HasPart c since from j.run.book journal counts
  pub role : IsRole c j.number j.paths

-- calls are those of the job
abbrev pub CallsInRole : {W : Type 0} → (W → Option (List Entry)) → (W → Counts) → W → W → Job → Job → Type 0
CallsInRole journal counts old new was now = (c : Cast) (since : List Entry) (from : Counts) → HasRole c since from was (journal old) (counts old)
    → HasRole c since from now (journal new) (counts new)

-- a call of the job alone keeps its role
abbrev pub KeepsRole : Job → Job → Type 0
KeepsRole was now = (c : Cast) (since : List Entry) (from : Counts) (journal : Option (List Entry)) (counts : Counts) → HasRole c since from was journal counts
    → HasRole c since from now journal counts

-- the job of this number is to do what this asks, in this working folder, and may start a child
pub record IsCastAs (c : Cast) (number : ℕ) (a : Ask) (here : List ℕ) : Type 0 where
  pub has : c.job number ≡ Some a
  pub folder : c.here ≡ here
  pub starts : c.starts ≡ true

-- where the jobs began clean, the job of this number has no child
abbrev pub HasNoChild : Cast → ℕ → Option (List Entry) → Type 0
HasNoChild c number journal = c.clean ≡ true → HasEnd number journal

-- where the jobs began clean, the job of this number has asked for no ports
abbrev pub HasNoPorts : Cast → ℕ → Option (List Entry) → Type 0
HasNoPorts c number journal = c.clean ≡ true → AsksNone number journal

-- where the jobs began clean, no save of this job was acknowledged
abbrev pub HasNoSave : Cast → Ask → Option (List Entry) → Type 0
HasNoSave c a journal = c.clean ≡ true → IfSome journal (LacksSaves a.output)

-- where the jobs began clean, this job has read the notebook that it saves first, and has not saved yet
abbrev pub OnlyReads : Cast → Ask → Notebook → Option (List Entry) → Type 0
OnlyReads c a first journal = c.clean ≡ true → IfSome journal (HasOnlyRead a first)

-- the session of an execution that saves to this output is of these words
pub record IsOfWords (output : List ℕ) (pairs : RandomPairs) (x : Execution) : Type 0 where
  pub output_is : output_of x.book ≡ output
  pub key_is : x.session.key ≡ key_of pairs

-- the job of this number may start this kernel, which is its own by what it has read: it has no child, and the words of its
-- execution were drawn last
pub record MayStart (c : Cast) (number : ℕ) (kernel : Kernel) (here : List ℕ) (x : Execution) (journal : Option (List Entry)) : Type 0 where
  pub ask : Ask
  pub cast : IsCastAs c number ask here
  pub kernel_is : IfSome journal (λ past. IsKernelOf ask past kernel)
  pub childless : HasNoChild c number journal
  pub pairs : RandomPairs
  pub words : IsOfWords ask.output pairs x
  pub drawn : IfSome journal (HasDrawn ask.output pairs)

-- these are the ports that were last given for the job of this number
abbrev pub HasPorts : ℕ → List ℕ → Option (List Entry) → Type 0
HasPorts number ports journal = IfSome journal (λ past. ports_of number past ≡ Some ports)

-- calls leave the ports that were last given as they are
abbrev pub KeepsPorts : {W : Type 0} → (W → Option (List Entry)) → W → W → Type 0
KeepsPorts journal old new = (number : ℕ) (ports : List ℕ) → HasPorts number ports (journal old) → HasPorts number ports (journal new)

-- the job of this number may start this kernel on these ports, which it has asked for since its words were drawn
pub record MayConnect (c : Cast) (number : ℕ) (ports : List ℕ) (kernel : Kernel) (here : List ℕ) (x : Execution) (journal : Option (List Entry)) : Type 0 where
  pub ask : Ask
  pub cast : IsCastAs c number ask here
  pub kernel_is : IfSome journal (λ past. IsKernelOf ask past kernel)
  pub childless : HasNoChild c number journal
  pub given : HasPorts number ports journal
  pub pairs : RandomPairs
  pub words : IsOfWords ask.output pairs x
  pub asked : IfSome journal (HasAsked number ask.output pairs ports)

-- the kernel of the job of this number may be started now: its connection file is written
pub record MayRun (c : Cast) (number : ℕ) (kernel : Kernel) (here : List ℕ) (journal : Option (List Entry)) : Type 0 where
  pub ask : Ask
  pub cast : IsCastAs c number ask here
  pub ready : IfSome journal (λ past. IsReady number ask past kernel)
  pub childless : HasNoChild c number journal

-- calls of the job, which may make its connection file while it has no child
abbrev pub WritesInRole : {W : Type 0} → (W → Option (List Entry)) → (W → Counts) → W → W → Job → Type 0
WritesInRole journal counts old new j = (c : Cast) (since : List Entry) (from : Counts) → c.starts ≡ true → HasNoChild c j.number (journal old)
    → HasRole c since from j (journal old) (counts old) → HasRole c since from j (journal new) (counts new)

-- the connection file has the ports and the key of the job: where these ports were given last, and the key is that of the words
-- that were drawn last, the kernel of a job at that file may be started
abbrev pub ReadiesIn : {W : Type 0} → (W → Option (List Entry)) → W → W → Job → Type 0
ReadiesIn journal old new j = (a : Ask) (kernel : Kernel) (pairs : RandomPairs) → j.paths.connection ≡ connection_of a.output → IfSome (journal old) (λ past. IsKernelOf a past kernel)
    → HasPorts j.number j.ports (journal old) → j.run.session.key ≡ key_of pairs → IfSome (journal old) (HasAsked j.number a.output pairs j.ports)
    → IfSome (journal new) (λ past. IsReady j.number a past kernel)

-- calls of the job, which may ask for its ports and start this kernel
abbrev pub LaunchesInRole : {W : Type 0} → (W → Option (List Entry)) → (W → Counts) → W → W → Kernel → List ℕ → Job → Job → Type 0
LaunchesInRole journal counts old new kernel here was now = (c : Cast) (since : List Entry) (from : Counts) → MayStart c was.number kernel here was.run (journal old)
    → HasNoPorts c was.number (journal old) → HasRole c since from was (journal old) (counts old) → HasRole c since from now (journal new) (counts new)

-- calls of the job, which may start this kernel on the ports that were given
abbrev pub LaunchesOnPorts : {W : Type 0} → (W → Option (List Entry)) → (W → Counts) → W → W → Kernel → List ℕ → Job → Type 0
LaunchesOnPorts journal counts old new kernel here j = (c : Cast) (since : List Entry) (from : Counts) → MayConnect c j.number j.ports kernel here j.run (journal old)
    → HasRole c since from j (journal old) (counts old) → HasRole c since from j (journal new) (counts new)

-- calls of the job, which may start this kernel by the connection file that is written
abbrev pub RunsInRole : {W : Type 0} → (W → Option (List Entry)) → (W → Counts) → W → W → Kernel → List ℕ → Job → Type 0
RunsInRole journal counts old new kernel here j = (c : Cast) (since : List Entry) (from : Counts) → MayRun c j.number kernel here (journal old)
    → HasRole c since from j (journal old) (counts old) → HasRole c since from j (journal new) (counts new)

-- a path that a job on this output doesn't touch
pub record IsOther (output path : List ℕ) : Type 0 where
  pub output_is : bytes_eq output path ≡ false
  pub temporary : bytes_eq (temporary_of output) path ≡ false
  pub connection : bytes_eq (connection_of output) path ≡ false

-- how a start of a job ends: it runs, or it has ended
abbrev pub StartsAs : Origin → Result Job End → Option (List Entry) → Counts → Type 0
StartsAs o (Ok j) journal counts = Runs o j journal counts
StartsAs o (Err e) journal counts = Ends o (keeps_open e) journal counts

-- a start of a job whose calls are those of the jobs of a cast: it runs, or it has ended
abbrev pub StartsInRole : {E : Type 0} → Cast → List Entry → Counts → Result Job E → Option (List Entry) → Counts → Type 0
StartsInRole c since from (Ok j) journal counts = HasRole c since from j journal counts
StartsInRole c since from (Err e) journal counts = HasCalled c since from journal counts

-- the begin of a job: it runs, or it has ended; the task is given where it is executed
abbrev pub BeginsAs : Origin → Option Task → Result Job Answer → Option (List Entry) → Counts → Type 0
BeginsAs o task (Ok j) journal counts = Runs o j journal counts
BeginsAs o task (Err a) journal counts = EndsWith o task a journal counts

-- An end that a failed call brings before the kernel runs comes only where the count of such calls rose, and no budget of turns
-- ends a start; what an end of a save tells stands by its course.
abbrev pub EndCause : Counts → Counts → End → Type 0
EndCause old new (end.NotRead path) = Rose old.disk new.disk
EndCause old new end.NotStarted = (Rose old.rand new.rand) ⊎ (Rose old.child new.child)
EndCause old new end.NoConnectionFile = Rose old.disk new.disk
EndCause old new end.NetFault = Rose old.net new.net
EndCause old new end.Spent = ⊥
EndCause old new _ = Unit {0}

-- calls that start the kernel of a job were answered so
pub record EndsLaunch {U : Type 0} (old new : Counts) (result : Result U End) : Type 0 where
  -- no save has failed in them
  pub saved : stays_open result ≡ true
  -- no count has fallen
  pub grow : CountsGrow old new
  -- where the job ends, such a cause stands
  pub cause : IfErr result (EndCause old new)
  -- where it ends, it ends as a start may
  pub own : IfErr result IsEndOfLaunch

-- what stands of a job by the counts alone, since they were so, whatever its world tells
pub record RunsCounted (from : Counts) (j : Job) (journal : Option (List Entry)) (counts : Counts) : Type 0 where
  pub origin : Origin
  pub unwatched : origin.is_watched ≡ false
  pub grow : CountsGrow from origin.counts
  pub runs : Runs origin j journal counts
