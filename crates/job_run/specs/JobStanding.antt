-- What a job stands for, by the journal of its world, and what each of its calls makes of that. It holds of jobs that want no interrupts.
use Rattle.std.specs.Prelude.{◌≡◌, ◌∷◌, ◌≤◌, ℕ, true, false, List, Some, is_some, length}
use Rattle.world.specs.declared.chan.Chan.{Chan}
use Rattle.world.specs.declared.chan.Chan.TheVariants.{Iopub}
use Rattle.world.specs.declared.conn.Conn.{Conn}
use Rattle.world.specs.declared.entry.Entry.{Entry}
use Rattle.world.specs.declared.entry.Entry.TheVariants.{Got, Moment}
use Rattle.world.specs.Moments.{Since}
use Rattle.world.specs.Places.{is_at, time}
use Rattle.kernel_lines.specs.Line.{taken_of}
use Rattle.job_end.specs.declared.answer.Answer.{Answer}
use Rattle.run_journal.specs.Parts.{place, bytes_put}
use Rattle.job_journal.specs.Ended.{HasAnswered, IsWhole}
use Rattle.job_journal.specs.Plot.{Plot, facts}
use Rattle.job_journal.specs.Quiet.{IsQuietNow}
use Rattle.job_run.specs.declared.execution.Execution.{Execution}
use Rattle.job_run.specs.declared.job.Job.{Job}
use Rattle.job_run.specs.Due.{WantsLook}
use Rattle.job_run.specs.Queues.{line_of}
use Rattle.job_run.specs.Run.{number_of, outcome_of}
use Rattle.job_run.specs.Standing.{Stands, StandsUntold}
use Rattle.job_run.specs.Task.{output_of_job}

-- A job has the number and the output of the plot's. While it runs its execution stands for the journal in this sense, and no stream of it is broken.
-- Once it has ended, it has ended with its answer by the journal.
pub record JobStandsAs (stands : Plot → ℕ → Execution → List Entry → Type 0) (p : Plot) (j : Job) (now : List Entry) : Type 0 where
  pub number_is : number_of j ≡ p.setting.number
  pub output_is : output_of_job j ≡ p.ask.output
  pub undated : (facts p).task.times.interrupt ≡ false
  pub runs : is_some (outcome_of j) ≡ false → stands p (number_of j) j.run now
  pub whole : is_some (outcome_of j) ≡ false → IsWhole (facts p) now
  pub ended : (a : Answer) → outcome_of j ≡ Some a → HasAnswered p a now

-- a job stands for the journal
abbrev pub JobStands : Plot → Job → List Entry → Type 0
JobStands p j now = JobStandsAs Stands p j now

-- a job stands for the journal but for its clock: it may still have to be told the last clock entries
abbrev pub JobStandsUntold : Plot → Job → List Entry → Type 0
JobStandsUntold p j now = JobStandsAs StandsUntold p j now

-- The newest entry is a piece that was got on this connection of a job that runs, and the job stood for the journal before it.
pub record IsGotFor (p : Plot) (j : Job) (c : Chan) (bytes : List ℕ) (now : List Entry) : Type 0 where
  pub running : is_some (outcome_of j) ≡ false
  pub conn : Conn
  pub room : ℕ
  pub past : List Entry
  pub is : now ≡ Got conn room bytes ∷ past
  pub at : is_at (place (facts p) c) conn ≡ true
  pub stands : JobStands p j past

-- The clock was read in a turn with this moment, and since then only entries were made that are quiet for a job that runs. Before it the job
-- stood for the journal but for its clock, and knew how many octets were put on IOPub. It wants no last look: the clock is read only once each look
-- that was wanted is done.
pub record IsTurnedFor (p : Plot) (j : Job) (ms : ℕ) (now : List Entry) : Type 0 where
  pub running : is_some (outcome_of j) ≡ false
  pub unlooked : WantsLook j false
  pub past : List Entry
  pub stands : JobStandsUntold p j past
  pub taken : taken_of (line_of j Iopub) ≡ length (bytes_put (facts p) Iopub past)
  pub rises : time past ≤ ms
  pub since : Since (IsQuietNow (facts p)) (Moment ms ∷ past) now

-- whatever a job stands for, it stands for after what it was told without a call of the world
pub record KeepsStanding (was now : Job) : Type 0 where
  pub stands : (p : Plot) (journal : List Entry) → JobStands p was journal → JobStands p now journal
  pub untold : (p : Plot) (journal : List Entry) → JobStandsUntold p was journal → JobStandsUntold p now journal
