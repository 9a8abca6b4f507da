-- What the file of a graph asks for, or why it gives no jobs. A journal has its newest entry first.
use Rattle.std.specs.Prelude.{◌≡◌, ◌⊎◌, ℕ, List, [], ◌∷◌, ◌++◌, Result, Ok, Err, codes}
use Rattle.std.specs.Fmt.{decimal}
use Rattle.jtext.specs.Print.{compact}
use Rattle.job_graph.specs.declared.whole.Graph.{Graph}
use Rattle.job_graph.specs.declared.graph_fault.GraphFault.TheVariants as fault
use Rattle.job_graph.specs.Refused.{IsGraphOf}
use Rattle.job_graph.specs.Refused as graph
use Rattle.job_graph.specs.Waves.{AreWaves}
use Rattle.words.specs.declared.ask.Ask.{Ask}
use Rattle.words.specs.declared.usage.Usage.{Usage}
use Rattle.words.specs.declared.usage.Usage.TheVariants as usage
use Rattle.words.specs.JobsAsked.{asks_of}
use Rattle.words.specs.JobsFaults as batch
use Rattle.words.specs.JobsFile.{IsJobsFile}
use Rattle.world.specs.declared.entry.Entry.{Entry}
use Rattle.world.specs.declared.entry.Entry.TheVariants.{Read}
use Rattle.world.specs.declared.read_file.ReadFile.{ReadFile}
use Rattle.world.specs.declared.read_file.ReadFile.TheVariants as found
use Rattle.graph_run.specs.declared.answer.Answer.{Answer}
use Rattle.graph_run.specs.declared.end.End.{End}
use Rattle.graph_run.specs.declared.end.End.TheVariants as end
use Rattle.graph_run.specs.declared.workflow.Workflow.{Workflow}
use Rattle.graph_run.specs.Lines.{end_line}

-- the journal after the read of the file, of which at most 1 MiB is read
abbrev pub file_read : List ℕ → ReadFile → List Entry → List Entry
file_read file answer before = Read file 1048576 answer ∷ before

-- The bytes are a graph, the rest of it is a jobs file with this path, and the jobs run in the fewest waves. `common`: what all jobs
-- have in common.
pub record IsWorkflowOf (file : List ℕ) (common : Ask) (bytes : List ℕ) (f : Workflow) : Type 0 where
  pub graph : IsGraphOf bytes f.graph
  pub jobs : IsJobsFile file f.graph.rest
  pub asked : f.asks ≡ asks_of common f.graph.rest
  pub waves : AreWaves f.graph.needs f.waves

-- the pointer to the needs of a job
abbrev pub needs_pointer : ℕ → List ℕ
needs_pointer job = codes "/jobs/" ++ (decimal job ++ codes "/needs")

-- a graph with these bytes is refused so: for its own first fault, for the first job that needs itself, or for the first fault of
-- the jobs file that stays of it
pub data IsRefused (file bytes : List ℕ) : Usage → Type 0 where
  bad : (at : List ℕ) → graph.Refuses bytes (fault.Bad at) → IsRefused file bytes (usage.BadJobs at)
  cycle : (job : ℕ) → graph.Refuses bytes (fault.Cycle job) → IsRefused file bytes (usage.BadJobs (needs_pointer job))
  no_jobs : (g : Graph) (u : Usage) → IsGraphOf bytes g → batch.Refused file (compact g.rest) u → IsRefused file bytes u

-- why the file gives no jobs, with what is asked of the disk
pub data GivesNone (file : List ℕ) (before : List Entry) : End → List Entry → Type 0 where
  cannot_read : GivesNone file before end.NotRead (file_read file found.Failed before)
  too_large : GivesNone file before (end.Refused (usage.BadJobs [])) (file_read file found.Big before)
  refused : (bytes : List ℕ) (u : Usage) → IsRefused file bytes u → GivesNone file before (end.Refused u) (file_read file (found.Whole bytes) before)
  no_memory : (answer : ReadFile) → GivesNone file before end.NoMemory (file_read file answer before)

-- the read of the file gives this, or the graph ends so
abbrev pub GivesWorkflow : List ℕ → Ask → List Entry → Result Workflow Answer → List Entry → Type 0
GivesWorkflow file common before (Ok f) after = (bytes : List ℕ) × IsWorkflowOf file common bytes f × (after ≡ file_read file (found.Whole bytes) before)
GivesWorkflow file common before (Err r) after = GivesNone file before r.end after

-- the answer has what is to be said of its end, on the file
abbrev pub Speaks : List ℕ → Answer → Type 0
Speaks file a = (a.end ≡ end.NoMemory) ⊎ (a.text ≡ end_line file a.end)
