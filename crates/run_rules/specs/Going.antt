-- A job of a run, between two entries of the journal.
use Rattle.std.specs.Prelude.{◌≡◌, ℕ, ◌<◌, List, [], true, Some, None, length}
use Rattle.world.specs.declared.entry.Entry.{Entry}
use Rattle.world.specs.Waits.{has_wait, before_wait}
use Rattle.run_journal.specs.Job.{Job, Runs}
use Rattle.run_journal.specs.Parts.{is_running}
use Rattle.run_journal.specs.Why.{why}
use Rattle.run_journal.specs.Due.{all_along}
use Rattle.run_journal.specs.Decoding.{IsDecoding}
use Rattle.run_journal.specs.Course.{course}
use Rattle.run_journal.specs.Agreement.{Flows, KeepsRules, TellsRightly, waits_on}

-- A job of these runs its notebook by the rules of the loop. It has cells to run, and a limit is above 0. It ran at the last wait,
-- and each wait before that was done. What the world reports of its connections is right. No message waits for a save to be told.
pub record IsOfRun (jobs : List Job) (j : Job) (past : List Entry) : Type 0 where
  pub decodes : IsDecoding j.codec
  pub planned : 0 < length j.task.plan
  pub limited : (ms : ℕ) → j.task.times.limit_ms ≡ Some ms → 0 < ms
  pub runs : j.given ≡ Runs
  pub rules : KeepsRules jobs j past
  pub ran : has_wait past ≡ true → is_running j (before_wait past) ≡ true
  pub reports : TellsRightly j past
  pub waits : all_along waits_on past ≡ true
  pub flows : Flows j past

-- The job is running, nothing has stopped it, and no event waits for a save.
pub record GoesOn (j : Job) (past : List Entry) : Type 0 where
  pub running : is_running j past ≡ true
  pub unstopped : why j past ≡ None
  pub unheld : (course j past).held ≡ []
