-- What the jobs of a graph wait for, and which outputs later waves leave alone. A journal has its newest entry first.
use Rattle.std.specs.Prelude.{◌≡◌, ℕ, ◌+◌, List, [], ◌∷◌, Some, Contains, slice_get}
use Rattle.words.specs.declared.ask.Ask.{Ask}
use Rattle.world.specs.declared.entry.Entry.{Entry}
use Rattle.world.specs.declared.entry.Entry.TheVariants.{Started}
use Rattle.world.specs.Counts.{Counts}
use Rattle.world.specs.Moments.{Since}
use Rattle.world.specs.Touched.{Spares}
use Rattle.save_disk.specs.Places.{save_count}
use Rattle.graph_run.specs.declared.ended.Ended.{Ended}
use Rattle.graph_run.specs.declared.standing.Standing.{Standing}
use Rattle.graph_run.specs.declared.tested.Tested.{Tested}
use Rattle.graph_run.specs.declared.workflow.Workflow.{Workflow}
use Rattle.graph_run.specs.Tests.{HasPassed, needs_of, output_of, status_of}
use Rattle.graph_run.specs.Waves.{Runs, Stops, StopsIn}

-- Between two moments of a journal, no entry touches the output of this job, and none acknowledges a save of it.
pub record LeavesOutput (f : Workflow) (job : ℕ) (before after : List Entry) : Type 0 where
  pub spared : Since (Spares (output_of f job)) before after
  pub acknowledged : save_count (output_of f job) after ≡ save_count (output_of f job) before

-- From the begin of a wave to the graph's end, the output of each job that ended before the wave is left alone. Such a job ran or was
-- refused. `begin`: the journal where the wave begins; `last`: the journal where the graph ends.
pub record LeavesEnded (f : Workflow) (ended : List Ended) (begin last : List Entry) : Type 0 where
  pub each : (job status : ℕ) → status_of job ended ≡ Some status → LeavesOutput f job begin last

-- This job ended with 0 before a wave, and its last acknowledged save comes before the wave's begin. No entry touches its output between
-- that begin and the moment `now` of the wave, and none between this moment and the graph's end.
pub record HasSavedAll (f : Workflow) (ended : List Ended) (begin now last : List Entry) (job : ℕ) : Type 0 where
  pub done : status_of job ended ≡ Some 0
  pub since : LeavesOutput f job begin now
  pub later : LeavesOutput f job now last

-- The child with this number may be started at the moment `now` of a wave. It is that of a job of the wave that passed its test, and
-- each job that this one needs ended with 0 and made its last acknowledged save before the wave. `s`: how far the graph came before the
-- wave; `t`: what came of the wave's tests.
pub record MayStart (f : Workflow) (s : Standing) (t : Tested) (begin now last : List Entry) (number : ℕ) : Type 0 where
  pub at : ℕ
  pub number_is : number ≡ s.ran + at
  pub job : ℕ
  pub job_is : slice_get t.jobs at ≡ Some job
  pub ask : Ask
  pub ask_is : slice_get t.asks at ≡ Some ask
  pub passed : HasPassed f s.ended job ask
  pub needs : (need : ℕ) → Contains (needs_of f job) need → HasSavedAll f s.ended begin now last need

-- If the newest entry starts a child, its job passed its test, and each job that this one needs has made its last acknowledged save.
abbrev pub StartsBehind : Workflow → Standing → Tested → List Entry → List Entry → List Entry → Type 0
StartsBehind f s t begin last [] = ⊥
StartsBehind f s t begin last (Started number argv env dir did ∷ past) = MayStart f s t begin (Started number argv env dir did ∷ past) last number
StartsBehind f s t begin last (_ ∷ past) = Unit {0}

-- A wave with these tests makes the journal from `begin` to `end`, and the graph ends at `last`.
pub record Waits (f : Workflow) (s : Standing) (t : Tested) (begin end last : List Entry) : Type 0 where
  -- each child of the wave starts behind the last acknowledged save of each job that its own job needs
  pub starts : Since (StartsBehind f s t begin last) begin end
  -- the wave, and all that follows it, leaves alone the output of each job that ended before it
  pub leaves : LeavesEnded f s.ended begin last

-- Each of these waves starts its children behind the last saves of what their jobs need, and leaves earlier outputs alone.
abbrev pub EachWaits : {f : Workflow} {here : List ℕ} {turns : ℕ} {from : Counts} {before : List Entry} {waves : List (List ℕ)} {s : Standing} {new : Counts} {after : List Entry}
    → List Entry → Runs f here turns from before waves s new after → Type 0
EachWaits last Runs.none = Unit {0}
EachWaits {f} last (Runs.more {s = s} {past = past} {after = after} left wave ran is one) = EachWaits last ran × Waits f s one.tested past after last

-- A wave that was cut off leaves earlier outputs alone. It starts no child in its tests, and behind them only behind the last saves of
-- what the child's job needs.
abbrev pub CutWaits : {f : Workflow} {here : List ℕ} {turns : ℕ} {wave : List ℕ} {s : Standing} {before : List Entry} {new : Counts} {after : List Entry}
    → List Entry → StopsIn f here turns wave s before new after → Type 0
CutWaits {f} {s = s} {before = before} last (StopsIn.in_tests reads) = LeavesEnded f s.ended before last
CutWaits {f} {s = s} {before = before} {after = after} last (StopsIn.behind_tests t mid said tests stops) = Waits f s t before after last

-- Waves that were cut off start their children behind the last saves of what their jobs need, and leave earlier outputs alone.
abbrev pub StopsWait : {f : Workflow} {here : List ℕ} {turns : ℕ} {from : Counts} {before : List Entry} {new : Counts} {after : List Entry} → List Entry
    → Stops f here turns from before new after → Type 0
StopsWait last (Stops.between first rest s split ran) = EachWaits last ran
StopsWait last (Stops.within first wave rest s left mid past split ran is cut) = EachWaits last ran × CutWaits last cut
