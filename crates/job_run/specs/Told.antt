-- What the core of a job was told, and by which cause it stopped. Events have the newest first.
use Rattle.std.specs.Prelude.{◌≡◌, ℕ, List, ◌∷◌, ◌≤◌, Bool, true, Some}
use Rattle.cell_core.specs.declared.event.Event.{Event}
use Rattle.cell_core.specs.declared.event.Event.TheVariants.{Moment, Broken}
use Rattle.cell_core.specs.declared.machine.Core.{Core}
use Rattle.cell_core.specs.declared.why.Why.{Why}
use Rattle.cell_core.specs.declared.why.Why.TheVariants as why
use Rattle.cell_core.specs.declared.act.Act.TheVariants.{Stop}
use Rattle.cell_core.specs.Acts.{Meets, IsTimely, act_of, heard}
use Rattle.cell_core.specs.Events.{came, is_broken, time}
use Rattle.cell_core.specs.StandsFor.{StandsFor, task_of}
use Rattle.cell_core.specs.Task.{Task}
use Rattle.job_end.specs.declared.answer.Answer.{Answer}
use Rattle.job_end.specs.declared.end.End.{End}
use Rattle.job_end.specs.declared.end.End.TheVariants as end
use Rattle.job_end.specs.Answers.{Answers}
use Rattle.job_journal.specs.Ended.{cause_of}

-- the core was told these events, which came where they may and in time; no clock entry is after this one, and a broken stream is named
pub record Tells (core : Core) (clock : ℕ) (is_named : Bool) : Type 0 where
  pub events : List Event
  pub stands : StandsFor core events
  pub meets : Meets (task_of core) events
  pub timed : time (heard (task_of core) events) ≤ clock
  pub named : came is_broken events ≡ true → is_named ≡ true

-- the core was told some events, which came where they may and in time; no clock entry is after this one, and a broken stream is named
abbrev pub Hears : Core → ℕ → Bool → Type 0
Hears core clock is_named = ∥ Tells core clock is_named ∥₁

-- A core was told of a broken stream before it stopped.
pub record KnowsBroken (core : Core) : Type 0 where
  pub events : List Event
  pub stands : StandsFor core events
  pub broken : came is_broken (heard (task_of core) events) ≡ true

-- a core that was told of a broken stream still was
abbrev pub KeepsBroken : Core → Core → Type 0
KeepsBroken old new = KnowsBroken old → KnowsBroken new

-- an event may be told: a clock entry in time, a broken stream by its name
abbrev pub MayCome : Core → ℕ → Bool → Event → Type 0
MayCome core clock is_named (Moment t) = (t ≡ clock) × ((events : List Event) → StandsFor core events → time (heard (task_of core) events) ≤ t → IsTimely (task_of core) (Moment t) events)
MayCome core clock is_named Broken = is_named ≡ true
MayCome core clock is_named _ = Unit {0}

-- the newest of these events, which came where they may and in time, stops the job for this cause
pub record Stopping (task : Task) (cause : Why) : Type 0 where
  pub event : Event
  pub past : List Event
  pub meets : Meets task (event ∷ past)
  pub stops : act_of task event past ≡ Stop cause

-- some events stop the job for this cause (nbclient's and Papermill's ends of a run)
abbrev pub StopsFor : Task → Why → Type 0
StopsFor task cause = ∥ Stopping task cause ∥₁

-- an end of a run, by what stands of the cause that stopped its core; a save that failed and want of memory need none
abbrev pub EndsFor : (Why → Type 0) → End → Type 0
EndsFor stops end.Done = stops why.Done
EndsFor stops (end.CellError cell name) = stops why.CellError
EndsFor stops end.NotReady = stops why.NotReady
EndsFor stops end.KernelLost = stops why.KernelLost
EndsFor stops (end.TimedOut cell) = stops why.TimedOut
EndsFor stops (end.NoIdle cell) = stops why.NoIdle
EndsFor stops (end.BadPeer chan f) = stops why.BadPeer
EndsFor stops (end.NotSaved f) = Unit {0}
EndsFor stops end.NoMemory = Unit {0}
EndsFor stops _ = ⊥

-- a run ends so by itself: by a cause for which events stop its core, by a save that failed, or for want of memory
abbrev pub EndsBy : Task → End → Type 0
EndsBy task e = EndsFor (StopsFor task) e

-- an end from outside: by the network or by the budget of turns
abbrev pub IsOutside : End → Type 0
IsOutside end.NetFault = Unit {0}
IsOutside end.Spent = Unit {0}
IsOutside _ = ⊥

-- a job that runs ends so: by its run, or from outside, by the network or by the budget of turns
abbrev pub EndsJob : Task → End → Type 0
EndsJob task end.NetFault = Unit {0}
EndsJob task end.Spent = Unit {0}
EndsJob task e = EndsBy task e

-- the start of a kernel ends so: by its ports, by itself, by its connection file, or for want of memory
abbrev pub IsEndOfLaunch : End → Type 0
IsEndOfLaunch end.NotStarted = Unit {0}
IsEndOfLaunch end.NoConnectionFile = Unit {0}
IsEndOfLaunch end.NetFault = Unit {0}
IsEndOfLaunch end.NoMemory = Unit {0}
IsEndOfLaunch _ = ⊥

-- a start ends a job so: by its ports, its kernel or its connection file, or as a run does
abbrev pub StartsBy : Task → End → Type 0
StartsBy task end.NotStarted = Unit {0}
StartsBy task end.NoConnectionFile = Unit {0}
StartsBy task end.NetFault = Unit {0}
StartsBy task e = EndsBy task e

-- a job on this output ended so: its answer is that of an end of its run, or of one from outside
pub record Ending (output : List ℕ) (task : Task) (a : Answer) : Type 0 where
  pub end : End
  pub by : EndsJob task end
  pub answers : Answers output end a

-- the answer of a job on this output is that of some end of its run, or of one from outside
abbrev pub IsEnding : List ℕ → Task → Answer → Type 0
IsEnding output task a = ∥ Ending output task a ∥₁

-- a status that names a cause comes only where there are events that stop the job for it
abbrev pub IsCaused : Task → ℕ → Type 0
IsCaused task status = (cause : Why) → cause_of status ≡ Some cause → StopsFor task cause
