-- What a turn of the loop brings to the jobs of a run. A journal has its newest entry first.
use Rattle.std.specs.Prelude.{◌≡◌, ℕ, List, ◌∷◌, true, Result, Ok, Err}
use Rattle.world.specs.declared.chan.Chan.{Chan}
use Rattle.world.specs.declared.entry.Entry.{Entry}
use Rattle.world.specs.declared.entry.Entry.TheVariants as made
use Rattle.world.specs.Moments.{Since}
use Rattle.world.specs.Places.{time}
use Rattle.world.specs.Waits.{is_after_wait}
use Rattle.ready_loop.specs.declared.fault.LoopFault.{LoopFault}
use Rattle.run_journal.specs.Job.{Job}
use Rattle.run_journal.specs.Parts.{bytes_put}
use Rattle.job_journal.specs.Quiet.{IsQuietNow}

-- The newest entry is of the clock, with this moment, directly behind a wait. All others since the call are quiet for every job, put
-- nothing and leave the clock.
pub record BringsMoment (ms : ℕ) (before after : List Entry) : Type 0 where
  pub past : List Entry
  pub quiet : (j : Job) → Since (IsQuietNow j) before past
  pub put : (j : Job) (c : Chan) → bytes_put j c past ≡ bytes_put j c before
  pub clock : time past ≡ time before
  pub waited : is_after_wait past ≡ true
  pub newest : after ≡ made.Moment ms ∷ past

-- What a `turn` brings, by its answer: the moment that it gives, and after a fault nothing to any job.
abbrev pub TurnBrings : Result ℕ LoopFault → List Entry → List Entry → Type 0
TurnBrings (Ok now) before after = BringsMoment now before after
TurnBrings (Err fault) before after = (j : Job) → Since (IsQuietNow j) before after
