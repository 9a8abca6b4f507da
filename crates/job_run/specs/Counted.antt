-- How many saves the core of a job was told of, and what they left: as many as were acknowledged at its output, and there a crash
-- leaves what its cause of a stop asks for.
use Rattle.std.specs.Prelude.{◌≡◌, ℕ, List, ◌∷◌, Bool, true, Option, Some, None, IfSome, Result, Ok, Err, is_some}
use Rattle.world.specs.declared.entry.Entry.{Entry}
use Rattle.cell_core.specs.declared.act.Act.{Act}
use Rattle.cell_core.specs.declared.act.Act.TheVariants.{Nothing, Stop}
use Rattle.cell_core.specs.declared.machine.Core.{Core}
use Rattle.cell_core.specs.declared.why.Why.{Why}
use Rattle.cell_core.specs.Events.{ack_count}
use Rattle.cell_core.specs.Stops.{is_starting}
use Rattle.cell_core.specs.StandsFor.{task_of}
use Rattle.cell_core.specs.Task.{Task}
use Rattle.job_end.specs.declared.answer.Answer.{Answer}
use Rattle.job_end.specs.declared.end.End.{End}
use Rattle.job_end.specs.declared.end.End.TheVariants as end
use Rattle.job_saves.specs.Course.{Origin}
use Rattle.job_saves.specs.Left.{OutputAt, output_at, acks_at, IsLeft}
use Rattle.job_run.specs.Left.{Leaves}
use Rattle.job_journal.specs.Ended.{cause_of}
use Rattle.job_run.specs.Told.{Tells, Stopping, EndsFor}
use Rattle.job_run.specs.declared.execution.Execution.{Execution}

-- the core was told such events, and as many of them are saves as were acknowledged at the output
pub record TellsOf (core : Core) (clock : ℕ) (is_named : Bool) (m : OutputAt) : Type 0 where
  pub tells : Tells core clock is_named
  pub count : ack_count tells.events ≡ acks_at m

-- some events, of which as many are saves as were acknowledged at the output, stop the job for this cause, and a crash leaves there
-- what it asks for
pub record StoppingAfter (m : OutputAt) (task : Task) (cause : Why) : Type 0 where
  pub stopping : Stopping task cause
  pub count : ack_count (stopping.event ∷ stopping.past) ≡ acks_at m
  pub left : Leaves m task cause

-- there are events, of which so many are saves, that stop the job for this cause
abbrev pub StopsAfter : OutputAt → Task → Why → Type 0
StopsAfter m task cause = ∥ StoppingAfter m task cause ∥₁

-- a run ends so by itself, after so many saves
abbrev pub EndsAfter : OutputAt → Task → End → Type 0
EndsAfter m task e = EndsFor (StopsAfter m task) e

-- a status that names a cause comes only where there are events, of which so many are saves, that stop the job for it
abbrev pub IsCausedAfter : OutputAt → Task → ℕ → Type 0
IsCausedAfter m task status = (cause : Why) → cause_of status ≡ Some cause → StopsAfter m task cause

-- the core was told of so many saves; where this act is to stop the job, events with so many stop it
pub record HasCount (core : Core) (clock : ℕ) (is_named : Bool) (act : Act) (m : OutputAt) : Type 0 where
  pub heard : ∥ TellsOf core clock is_named m ∥₁
  pub stops : (cause : Why) → act ≡ Stop cause → StopsAfter m (task_of core) cause
  -- until the kernel is ready no cell is settled
  pub first : is_starting core ≡ true → IsLeft m 0 None

-- the core of an execution was told of so many saves; where this act is to stop the job, events with so many stop it
abbrev pub IsCounted : Execution → Act → OutputAt → Type 0
IsCounted x act m = HasCount x.core x.clock (is_some x.broken) act m

-- neither the core, its clock, the stream that broke nor the terms have changed
pub record KeepsTold (old new : Execution) : Type 0 where
  pub core : new.core ≡ old.core
  pub clock : new.clock ≡ old.clock
  pub broken : new.broken ≡ old.broken
  pub terms : new.terms ≡ old.terms

-- after what was done the core of an execution was told of so many saves, or the job ends after so many
abbrev pub IsCountedOn : {U : Type 0} → Execution → Result U End → OutputAt → Type 0
IsCountedOn x (Ok u) m = IsCounted x Nothing m
IsCountedOn x (Err e) m = EndsAfter m (task_of x.core) e

-- before the next act the core of an execution was told of so many saves, or the job ends after so many
abbrev pub IsCountedFor : Execution → Result Act End → OutputAt → Type 0
IsCountedFor x (Ok act) m = IsCounted x act m
IsCountedFor x (Err e) m = EndsAfter m (task_of x.core) e

-- the core was told of as many saves as were acknowledged
abbrev pub IsCountedAt : Origin → Execution → Act → Option (List Entry) → Type 0
IsCountedAt o x act journal = IfSome journal (λ past. IsCounted x act (output_at o past))

-- after a call the core was told of as many saves as were acknowledged, or the job ends after so many
abbrev pub CountsOn : {U : Type 0} → Origin → Execution → Result U End → Option (List Entry) → Type 0
CountsOn o x result journal = IfSome journal (λ past. IsCountedOn x result (output_at o past))

-- before the next act the core was told of as many saves as were acknowledged, or the job ends after so many
abbrev pub CountsFor : Origin → Execution → Result Act End → Option (List Entry) → Type 0
CountsFor o x result journal = IfSome journal (λ past. IsCountedFor x result (output_at o past))

-- a job ends so after so many saves, or from outside
abbrev pub EndsJobAfter : OutputAt → Task → End → Type 0
EndsJobAfter m task end.NetFault = Unit {0}
EndsJobAfter m task end.Spent = Unit {0}
EndsJobAfter m task e = EndsAfter m task e

-- a start ends a job so after so many saves
abbrev pub StartsAfter : OutputAt → Task → End → Type 0
StartsAfter m task end.NotStarted = Unit {0}
StartsAfter m task end.NoConnectionFile = Unit {0}
StartsAfter m task end.NetFault = Unit {0}
StartsAfter m task e = EndsAfter m task e

-- before an end is taken for that of the job: the core was told of so many saves, or the job ends after so many or from outside
abbrev pub IsCountedBy : {U : Type 0} → Execution → Result U End → OutputAt → Type 0
IsCountedBy x (Ok u) m = IsCounted x Nothing m
IsCountedBy x (Err e) m = EndsJobAfter m (task_of x.core) e

-- while the job runs its core was told of so many saves; once it has ended, events with so many brought its status
abbrev pub IsCountedIn : Option Answer → Execution → OutputAt → Type 0
IsCountedIn None x m = IsCounted x Nothing m
IsCountedIn (Some answer) x m = IsCausedAfter m (task_of x.core) answer.status
