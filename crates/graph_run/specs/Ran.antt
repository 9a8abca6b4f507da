-- What a graph makes of the world. A journal has its newest entry first.
use Rattle.std.specs.Prelude.{◌≡◌, ℕ, List, [], Some, length}
use Rattle.std.specs.List.{AllByRecursion}
use Rattle.words.specs.declared.ask.Ask.{Ask}
use Rattle.words.specs.declared.usage.Usage.{Usage}
use Rattle.words.specs.Refusals.{refusal}
use Rattle.world.specs.declared.entry.Entry.{Entry}
use Rattle.world.specs.declared.read_file.ReadFile.TheVariants as found
use Rattle.world.specs.Counts.{Counts, CountsGrow}
use Rattle.said_lines.specs.Speech.{Says}
use Rattle.job_begin.specs.Causes.{HasCause}
use Rattle.batch_run.specs.Batch.{HasWaited}
use Rattle.graph_run.specs.declared.end.End.{End}
use Rattle.graph_run.specs.declared.end.End.TheVariants as end
use Rattle.graph_run.specs.declared.ended.Ended.{Ended}
use Rattle.graph_run.specs.declared.standing.Standing.{Standing}
use Rattle.graph_run.specs.declared.workflow.Workflow.{Workflow}
use Rattle.graph_run.specs.Answers.{Answers, FirstFault}
use Rattle.graph_run.specs.File.{GivesNone, IsWorkflowOf, file_read}
use Rattle.graph_run.specs.Lines.{code_of, end_line}
use Rattle.graph_run.specs.Waits.{EachWaits, StopsWait}
use Rattle.graph_run.specs.Waves.{Runs, Stops}
use Rattle.graph_run.specs.Words.{IsAsked, batch_words}

-- A status comes only where the count of the calls that it tells of rose: 3 and 10 of the disk, 6 of the random words or of the
-- children, 14 of the network; 16 only where so many waits were made.
pub record IsCaused (most : ℕ) (old new : Counts) (status : ℕ) : Type 0 where
  pub cause : HasCause old new status
  pub spent : status ≡ 16 → HasWaited most new

-- The status of a job has its cause. It isn't 11, which only a whole graph answers.
pub record IsJobStatus (most : ℕ) (old new : Counts) (status : ℕ) : Type 0 where
  pub caused : IsCaused most old new status
  pub other : status ≡ 11 → ⊥

-- the status of each of these jobs has its cause
abbrev pub AreCaused : ℕ → Counts → Counts → List Ended → Type 0
AreCaused most old new ended = AllByRecursion (λ (e : Ended). IsJobStatus most old new e.status) ended

-- the line of a graph with this file that ends so was said
abbrev pub IsSaid : List ℕ → End → Type 0 → List Entry → List Entry → Type 0
IsSaid file e cut before after = Says (end_line file e) cut before after

-- Jobs ran, or memory was refused on the way and that was said. `rose`: the count of failed says rose in it; `cut`: that count isn't 0
-- at its end.
pub data RanOn (f : Workflow) (here : List ℕ) (turns : ℕ) (rose cut : Type 0) (old new : Counts) (before : List Entry) : ℕ → List Entry → Type 0 where
  ran : (s : Standing) (fault code : ℕ) (after : List Entry) → Runs f here turns old before f.waves s new after → FirstFault s.ended (length f.asks) fault
      → Answers rose fault code → RanOn f here turns rose cut old new before code after
  stopped : (then : Counts) (past after : List Entry) → Stops f here turns old before then past → CountsGrow then new → IsSaid [] end.NoMemory cut past after
      → RanOn f here turns rose cut old new before 12 after

-- Every wave of a graph starts its children behind the last acknowledged saves of the jobs that theirs need. From a wave's begin to the
-- graph's end, no entry touches the output of a job that ended before the wave.
abbrev pub WavesWait : {f : Workflow} {here : List ℕ} {turns : ℕ} {rose cut : Type 0} {old new : Counts} {before : List Entry} {code : ℕ} {after : List Entry}
    → RanOn f here turns rose cut old new before code after → Type 0
WavesWait (RanOn.ran s fault code after runs status answers) = EachWaits after runs
WavesWait (RanOn.stopped then past after stops grow says) = StopsWait after stops

-- A graph with these words ended with that status.
pub data Ran (words : List (List ℕ)) (here : List ℕ) (turns : ℕ) (rose cut : Type 0) (old new : Counts) (before : List Entry) : ℕ → List Entry → Type 0 where
  -- the words are refused
  refused : (u : Usage) (after : List Entry) → refusal (batch_words words) ≡ Some u → IsSaid [] (end.Refused u) cut before after → Ran words here turns rose cut old new before 2 after
  -- the file gives no jobs
  none : (file : List ℕ) (common : Ask) (e : End) (on_disk after : List Entry) → IsAsked words file common → GivesNone file before e on_disk
      → IsSaid file e cut on_disk after → Ran words here turns rose cut old new before (code_of e) after
  -- The jobs of the file ran, wave after wave. Every child started behind the saves of what its job needs, and later waves left earlier
  -- outputs alone.
  ran : (file : List ℕ) (common : Ask) (bytes : List ℕ) (f : Workflow) (from : Counts) (code : ℕ) (after : List Entry) → IsAsked words file common
      → IsWorkflowOf file common bytes f → CountsGrow old from → (on : RanOn f here turns rose cut from new (file_read file (found.Whole bytes) before) code after)
      → WavesWait on → Ran words here turns rose cut old new before code after
  -- memory was refused before anything was asked of the disk
  starved : (after : List Entry) → IsSaid [] end.NoMemory cut before after → Ran words here turns rose cut old new before 12 after
