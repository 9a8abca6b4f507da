-- The waves of a graph, each one run of those of its jobs that pass their tests. A journal has its newest entry first.
use Rattle.std.specs.Prelude.{◌≡◌, ◌<◌, ℕ, ◌+◌, List, [], ◌∷◌, ◌++◌, Result, Ok, Err, IfOk, length}
use Rattle.jtext.specs.declared.no_memory.NoMemory.{NoMemory}
use Rattle.words.specs.declared.ask.Ask.{Ask}
use Rattle.world.specs.declared.entry.Entry.{Entry}
use Rattle.world.specs.Counts.{Counts}
use Rattle.world.specs.Moments.{Since}
use Rattle.said_lines.specs.Speech.{Says}
use Rattle.job_end.specs.declared.answer.Answer.{Answer}
use Rattle.batch_run.specs.Batch.{MakesEach, CallsOfRun, EndsChildren, LeavesOthers, AreEnds, AreSaid, EndSpent, numbered}
use Rattle.graph_run.specs.declared.ended.Ended.{Ended}
use Rattle.graph_run.specs.declared.standing.Standing.{Standing}
use Rattle.graph_run.specs.declared.tested.Tested.{Tested}
use Rattle.graph_run.specs.declared.workflow.Workflow.{Workflow}
use Rattle.graph_run.specs.Tests.{TestsWave, IsTakeRead}

-- What a run makes of these jobs on its part of the journal, in which the last line of each was said. They have the numbers from the first on, and
-- at most so many waits are made.
pub record RanJobs (asks : List Ask) (first turns : ℕ) (here : List ℕ) (result : Result (List Answer) NoMemory) (old new : Counts) (before after : List Entry) : Type 0 where
  pub jobs : MakesEach first asks result old new before after
  pub said : IfOk result (λ answers. AreSaid asks answers (0 < new.say) before after)
  pub calls : CallsOfRun (numbered first asks) here before after
  pub children : EndsChildren (numbered first asks) before after
  pub others : LeavesOthers asks before after
  pub one_each : IfOk result (λ answers. length answers ≡ length asks)
  pub ends : IfOk result (AreEnds asks old new)
  pub spent : IfOk result (EndSpent turns old new)

-- the jobs of a wave were tested, and then it was said which of them aren't run
pub record IsTested (f : Workflow) (wave : List ℕ) (ended : List Ended) (t : Tested) (cut : Type 0) (before after : List Entry) : Type 0 where
  pub on_disk : List Entry
  pub tests : TestsWave f ended before wave t on_disk
  pub says : Says t.lines cut on_disk after

-- how these jobs have ended, by their answers
abbrev pub ends_of : List ℕ → List Answer → List Ended
ends_of [] answers = []
ends_of (job ∷ jobs) [] = []
ends_of (job ∷ jobs) (a ∷ answers) = (record { job = job; status = a.status }) ∷ ends_of jobs answers

-- The jobs of a wave that pass their tests are run at once; where none passes, no call is made. `s`: what has ended before.
pub data RunsTested (t : Tested) (here : List ℕ) (turns : ℕ) (s : Standing) (old : Counts) (before : List Entry) : Standing → Counts → List Entry → Type 0 where
  none_passes : t.asks ≡ [] → RunsTested t here turns s old before (record { ended = s.ended ++ t.refused; ran = s.ran }) old before
  runs : (new : Counts) (after : List Entry) (answers : List Answer) → RanJobs t.asks s.ran turns here (Ok answers) old new before after
      → RunsTested t here turns s old before (record { ended = (s.ended ++ t.refused) ++ ends_of t.jobs answers; ran = s.ran + length t.asks }) new after

-- the same, cut off since memory was refused: before the jobs, with them, or behind them
pub data StopsTested (t : Tested) (here : List ℕ) (turns : ℕ) (s : Standing) (old : Counts) (before : List Entry) : Counts → List Entry → Type 0 where
  before_jobs : StopsTested t here turns s old before old before
  in_jobs : (new : Counts) (after : List Entry) (e : NoMemory) → RanJobs t.asks s.ran turns here (Err e) old new before after → StopsTested t here turns s old before new after
  behind_jobs : (new : Counts) (after : List Entry) (answers : List Answer) → RanJobs t.asks s.ran turns here (Ok answers) old new before after
      → StopsTested t here turns s old before new after

-- the jobs that pass are run, or cut off
abbrev pub MakesTested : {U E : Type 0} → Tested → List ℕ → ℕ → Standing → Counts → List Entry → Result U E → Standing → Counts → List Entry → Type 0
MakesTested t here turns s old before (Ok u) then new after = RunsTested t here turns s old before then new after
MakesTested t here turns s old before (Err e) then new after = StopsTested t here turns s old before new after

-- A wave: its jobs are tested, by those that have ended before, and those that pass are run.
pub record RunsWave (f : Workflow) (here : List ℕ) (turns : ℕ) (wave : List ℕ) (s : Standing) (before : List Entry) (then : Standing) (new : Counts) (after : List Entry) : Type 0 where
  pub tested : Tested
  pub mid : Counts
  pub said : List Entry
  pub tests : IsTested f wave s.ended tested (0 < mid.say) before said
  pub run : RunsTested tested here turns s mid said then new after

-- a wave that was cut off since memory was refused: in its tests, or behind them
pub data StopsIn (f : Workflow) (here : List ℕ) (turns : ℕ) (wave : List ℕ) (s : Standing) (before : List Entry) (new : Counts) (after : List Entry) : Type 0 where
  in_tests : Since (IsTakeRead f) before after → StopsIn f here turns wave s before new after
  behind_tests : (t : Tested) (mid : Counts) (said : List Entry) → IsTested f wave s.ended t (0 < mid.say) before said → StopsTested t here turns s mid said new after
      → StopsIn f here turns wave s before new after

-- a wave, which may have been cut off
abbrev pub MakesWave : {U E : Type 0} → Workflow → List ℕ → ℕ → List ℕ → Standing → List Entry → Result U E → Standing → Counts → List Entry → Type 0
MakesWave f here turns wave s before (Ok u) then new after = RunsWave f here turns wave s before then new after
MakesWave f here turns wave s before (Err e) then new after = StopsIn f here turns wave s before new after

-- no job has ended
abbrev pub outset : Standing
outset = record { ended = []; ran = 0 }

-- These waves ran one after the other. Each may make the waits that are left of so many.
pub data Runs (f : Workflow) (here : List ℕ) (turns : ℕ) (from : Counts) (before : List Entry) : List (List ℕ) → Standing → Counts → List Entry → Type 0 where
  none : Runs f here turns from before [] outset from before
  more : {waves : List (List ℕ)} {s then : Standing} {mid new : Counts} {past after : List Entry} (left : ℕ) (wave : List ℕ) → Runs f here turns from before waves s mid past
      → left + mid.waits ≡ turns + from.waits → RunsWave f here left wave s past then new after → Runs f here turns from before (waves ++ wave ∷ []) then new after

-- the waves were cut off since memory was refused: between two, or in one
pub data Stops (f : Workflow) (here : List ℕ) (turns : ℕ) (from : Counts) (before : List Entry) (new : Counts) (after : List Entry) : Type 0 where
  between : (first rest : List (List ℕ)) (s : Standing) → f.waves ≡ first ++ rest → Runs f here turns from before first s new after → Stops f here turns from before new after
  within : (first : List (List ℕ)) (wave : List ℕ) (rest : List (List ℕ)) (s : Standing) (left : ℕ) (mid : Counts) (past : List Entry) → f.waves ≡ first ++ wave ∷ rest
      → Runs f here turns from before first s mid past → left + mid.waits ≡ turns + from.waits → StopsIn f here left wave s past new after
      → Stops f here turns from before new after

-- the waves ran, or were cut off
abbrev pub RunsAll : Workflow → List ℕ → ℕ → Counts → List Entry → Result Standing NoMemory → Counts → List Entry → Type 0
RunsAll f here turns from before (Ok s) new after = Runs f here turns from before f.waves s new after
RunsAll f here turns from before (Err e) new after = Stops f here turns from before new after
