-- When the clock brings something to a job, and when it wants a last look.
use Rattle.std.specs.Prelude.{◌≡◌, ℕ, ◌&&◌, Bool, true, false, List, Option, Some, None, min}
use Rattle.std.specs.Prelude.{is_some}
use Rattle.world.specs.declared.chan.Chan.TheVariants.{Shell, Iopub, Heart}
use Rattle.zmtp_wire.specs.Meaning.{is_shaken}
use Rattle.kernel_lines.specs.Happened.{History, came_in}
use Rattle.kernel_lines.specs.Line.{StandsFor as LineStandsFor, role_of}
use Rattle.kernel_lines.specs.Lines.{line_on, can_ask}
use Rattle.kernel_talk.specs.Asking.{next_ask}
use Rattle.kernel_talk.specs.Pinging.{next_ping}
use Rattle.cell_core.specs.declared.event.Event.{Event}
use Rattle.cell_core.specs.Acts.{due_of, wants_look_of}
use Rattle.cell_core.specs.StandsFor.{StandsFor as CoreStandsFor, task_of}
use Rattle.job_run.specs.declared.execution.Execution.{Execution}
use Rattle.job_run.specs.declared.job.Job.{Job}

-- the earlier of two moments, of which each may be absent
abbrev pub earlier_of : Option ℕ → Option ℕ → Option ℕ
earlier_of (Some a) (Some b) = Some (min a b)
earlier_of (Some a) None = Some a
earlier_of None b = b

-- what came to an execution: the events of its core, and what happened on its connections
pub record Past (x : Execution) : Type 0 where
  pub events : List Event
  pub shell : History
  pub iopub : History
  pub heart : History
  pub shell_out : List ℕ
  pub iopub_out : List ℕ
  pub heart_out : List ℕ
  pub core : CoreStandsFor x.core events
  pub on_shell : LineStandsFor (line_on x.lines Shell) shell shell_out
  pub on_iopub : LineStandsFor (line_on x.lines Iopub) iopub iopub_out
  pub on_heart : LineStandsFor (line_on x.lines Heart) heart heart_out

-- a kernel that is to be pinged can be, once it is ready and the heartbeat's handshake is finished
abbrev pub can_ping : Execution → History → Bool
can_ping x heart =
    x.terms.heartbeat && x.is_ready && is_shaken (role_of (line_on x.lines Heart)) (came_in heart)

-- the earliest of the core's deadline, the next question for kernel info and the next ping
abbrev pub next_moment : (x : Execution) → Past x → Option ℕ
next_moment x past =
    earlier_of (due_of (task_of x.core) past.events)
    (earlier_of (next_ask x.asking (can_ask x.lines past.shell past.iopub) x.clock)
    (next_ping x.pings (can_ping x past.heart) x.clock))

-- how a job ended stands
abbrev pub is_over : Job → Bool
is_over j = is_some j.outcome

-- when the clock next brings something to a job: never where it is over, else as to its run
pub record IsDue (j : Job) (due : Option ℕ) : Type 0 where
  pub over : is_over j ≡ true → due ≡ None
  pub runs : is_over j ≡ false → (past : Past j.run) → due ≡ next_moment j.run past

-- a job wants a last look: where it isn't over and its core wants one, by the events it was told
pub record WantsLook (j : Job) (wants : Bool) : Type 0 where
  pub over : is_over j ≡ true → wants ≡ false
  pub runs : is_over j ≡ false → (events : List Event) → CoreStandsFor j.run.core events →
      wants ≡ wants_look_of (task_of j.run.core) events
