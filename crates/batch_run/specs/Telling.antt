-- What jobs of a run are told without a call of the world: their first clock, and how many of their octets were taken.
use Rattle.std.specs.Prelude.{◌≡◌, ◌<◌, ◌≤◌, ℕ, List, length, Option, Some, IfSome, slice_get}
use Rattle.words.specs.declared.ask.Ask.{Ask}
use Rattle.world.specs.declared.chan.Chan.{Chan}
use Rattle.world.specs.declared.chan.Chan.TheVariants.{Iopub}
use Rattle.world.specs.declared.entry.Entry.{Entry}
use Rattle.world.specs.Counts.{Counts}
use Rattle.world.specs.Places.{place_of, time}
use Rattle.kernel_lines.specs.Line.{taken_of}
use Rattle.ready_loop.specs.declared.readiness.Loop.{Loop}
use Rattle.ready_loop.specs.History.{History, conn_on}
use Rattle.ready_loop.specs.Standing.{StandsFor, put_at}
use Rattle.job_run.specs.declared.job.Job.{Job}
use Rattle.job_run.specs.Queues.{line_of}
use Rattle.batch_run.specs.declared.slot.Slot.{Slot}
use Rattle.batch_run.specs.declared.slot.Slot.TheVariants.{Running}
use Rattle.batch_run.specs.Owed.{none, begins}
use Rattle.batch_run.specs.Stands.{AllStand, Outset, owing}

-- The job of this number, where it runs, knows how many octets of this channel were taken. As many were put on its connection, by each journal
-- for which the loop stands.
abbrev pub IsTakenOn : Chan → ℕ → Loop → List Slot → Type 0
IsTakenOn chan i l slots = (j : Job) → slice_get slots i ≡ Some (Running j) → (h : History) (journal : List Entry) → StandsFor l h journal
    → taken_of (line_of j chan) ≡ length (put_at h journal (place_of (conn_on i chan)))

-- each job below this number knows it of its connection for IOPub
pub record AreTakenBelow (n : ℕ) (l : Loop) (slots : List Slot) : Type 0 where
  pub each : (i : ℕ) → i < n → IsTakenOn Iopub i l slots

-- The clock stood at this moment, and each job is told so after all have begun. That keeps all standing, and nothing more is to be told.
abbrev pub ReadsClocks : ℕ → List Slot → List Slot → Type 0
ReadsClocks ms was now = (asks : ℕ → Option Ask) (start : Option (List Entry)) (from : Outset) (n : ℕ) (journal : Option (List Entry)) (counts : Counts)
    → length was ≤ n → IfSome journal (λ past. time past ≡ ms) → AllStand asks start (owing (begins n) from) was journal counts
    → AllStand asks start (owing none from) now journal counts
