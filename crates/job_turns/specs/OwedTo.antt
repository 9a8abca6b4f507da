-- What a job stands for, by the journal of its world, while others are told what has happened and it waits. A journal has its newest entry first.
use Rattle.std.specs.Prelude.{◌≡◌, ℕ, Bool, true, false, List, Some, None}
use Rattle.world.specs.declared.chan.Chan.{Chan}
use Rattle.world.specs.declared.entry.Entry.{Entry}
use Rattle.job_end.specs.declared.answer.Answer.{Answer}
use Rattle.job_journal.specs.Ended.{HasAnswered}
use Rattle.job_journal.specs.Plot.{Plot, facts}
use Rattle.job_journal.specs.Quiet.{is_unread}
use Rattle.job_run.specs.declared.job.Job.{Job}
use Rattle.job_run.specs.JobStanding.{IsGotFor, IsTurnedFor, JobStands, JobStandsUntold}
use Rattle.job_run.specs.Run.{outcome_of}

-- what is still to be told to a job that has begun
pub data OwedTo : Type 0 where
  nothing : OwedTo
  first_clock : OwedTo  -- the clock, which it wasn't told since it began
  clock : ℕ → OwedTo  -- the clock of a turn, with this moment
  piece : Chan → List ℕ → OwedTo  -- these bytes, which were got on this channel of it
  anything : OwedTo  -- nothing is known of it

-- Other entries may come before a job is told it. Only a piece is to be told as the newest entry.
abbrev pub may_wait : OwedTo → Bool
may_wait nothing = true
may_wait first_clock = true
may_wait (clock ms) = true
may_wait (piece c bytes) = false
may_wait anything = true

-- A job may be told something else before it: it is neither the clock of a turn nor a piece.
abbrev pub is_open : OwedTo → Bool
is_open nothing = true
is_open first_clock = true
is_open (clock ms) = false
is_open (piece c bytes) = false
is_open anything = true

-- A job stands for the journal but for its clock: it may still have to be told the last clock entries. No byte was got for it yet.
pub record StandsFirst (p : Plot) (j : Job) (now : List Entry) : Type 0 where
  pub untold : JobStandsUntold p j now
  pub unread : is_unread (facts p) now ≡ true

-- A job that ends now ends with this answer: with that of its end, or for want of memory while it runs.
pub record IsLeftWith (j : Job) (a : Answer) : Type 0 where
  pub over : (answer : Answer) → outcome_of j ≡ Some answer → a ≡ answer
  pub starved : outcome_of j ≡ None → a.status ≡ 12

-- A job has ended with this answer by the journal. It wanted no interrupts.
pub record StandsEnded (p : Plot) (a : Answer) (now : List Entry) : Type 0 where
  pub undated : (facts p).task.times.interrupt ≡ false
  pub answered : HasAnswered p a now

-- A job stands for the journal but for what is still to be told to it.
abbrev pub StandsOwed : OwedTo → Plot → Job → List Entry → Type 0
StandsOwed nothing p j now = JobStands p j now
StandsOwed first_clock p j now = StandsFirst p j now
StandsOwed (clock ms) p j now = IsTurnedFor p j ms now
StandsOwed (piece c bytes) p j now = IsGotFor p j c bytes now
StandsOwed anything p j now = Unit {0}
