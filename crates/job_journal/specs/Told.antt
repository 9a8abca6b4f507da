-- What is still to be told to the core of a job, so that it knows what the journal has.
use Rattle.std.specs.Prelude.{◌≡◌, ◌≤◌, Bool, true, false, List, length, nat_lt}
use Rattle.world.specs.declared.entry.Entry.{Entry}
use Rattle.world.specs.Places.{time}
use Rattle.cell_core.specs.declared.act.Act.{Act}
use Rattle.cell_core.specs.declared.act.Act.TheVariants.{Stop}
use Rattle.cell_core.specs.declared.event.Event.{Event}
use Rattle.cell_core.specs.declared.machine.Core.{Core}
use Rattle.cell_core.specs.Acts.{Meets, has_stopped, heard}
use Rattle.cell_core.specs.Events as events
use Rattle.cell_core.specs.StandsFor.{StandsFor}
use Rattle.run_journal.specs.Job.{Job}
use Rattle.run_journal.specs.Course.{Course, course, tell}
use Rattle.run_journal.specs.Agreement.{Agrees, ClocksBy, told_on}
use Rattle.run_journal.specs.Arrivals.{ask_state}

-- an act stops the job
abbrev pub is_stop : Act → Bool
is_stop (Stop cause) = true
is_stop _ = false

-- The core was told these events, the newest first. Each came where it may and in time, and none has stopped the job.
pub record Hears (j : Job) (core : Core) (told : List Event) : Type 0 where
  pub stands : StandsFor core told
  pub meets : Meets j.task told
  pub goes_on : has_stopped j.task (heard j.task told) ≡ false

-- Two courses have told the same events, and the same events wait for a save. What waits for a look, and what came after the stop, may differ.
pub record SameTold (c d : Course) : Type 0 where
  pub told : c.told ≡ d.told
  pub held : c.held ≡ d.held

-- The core was told some events that haven't stopped it. With the pending ones it will have been told what the journal's course has told.
pub record IsToldBut (j : Job) (core : Core) (pending : List Event) (now : List Entry) : Type 0 where
  pub told : List Event
  pub hears : Hears j core told
  pub is : (late : List Event) → SameTold (course j now) (tell j told late pending)

-- the kernel was asked by the journal whether it is ready
abbrev pub was_asked : Job → List Entry → Bool
was_asked j now = nat_lt 0 (length (ask_state j now).ids)

-- The clock that the core knows isn't behind the journal's: not where a request came to stand, not where its reply came, and not now. It may be until
-- the kernel is asked.
pub record KeepsUp (j : Job) (told pending : List Event) (now : List Entry) : Type 0 where
  pub requests : ClocksBy (λ m n. n ≤ m) j (told_on pending told) now
  pub clock : was_asked j now ≡ true → time now ≤ events.time told

-- The core was told some events that haven't stopped it. With the pending ones its requests agree with those of the journal, and its clock isn't behind.
pub record AgreesBut (j : Job) (core : Core) (pending : List Event) (now : List Entry) : Type 0 where
  pub told : List Event
  pub hears : Hears j core told
  pub agrees : Agrees j (told_on pending told) now
  pub up : KeepsUp j told pending now
