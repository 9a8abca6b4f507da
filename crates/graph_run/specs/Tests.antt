-- The tests of the jobs of a wave before it runs. A journal has its newest entry first.
use Rattle.std.specs.Prelude.{◌≡◌, ℕ, ◌==◌, ◌++◌, Bool, true, false, List, [], ◌∷◌, Option, Some, None, Result, Ok, Err, Contains, if◌then◌else◌, map, slice_get, unwrap_or}
use Rattle.std.specs.List.{list_all}
use Rattle.jtext.specs.declared.json.Json.{Json}
use Rattle.jtext.specs.Find.{find}
use Rattle.nb_model.specs.declared.notebook.Notebook.{Notebook}
use Rattle.nb_load.specs.declared.load_fault.LoadFault.{LoadFault}
use Rattle.nb_load.specs.declared.load_fault.LoadFault.TheVariants as load_fault
use Rattle.nb_load.specs.Loaded.{IsNotebook, IsNoJson, IsNoNotebook}
use Rattle.job_graph.specs.declared.take.Take.{Take}
use Rattle.scrap_book.specs.Merging.{with_pairs}
use Rattle.scrap_book.specs.Scraps.{scraps}
use Rattle.words.specs.declared.ask.Ask.{Ask}
use Rattle.world.specs.declared.entry.Entry.{Entry}
use Rattle.world.specs.declared.entry.Entry.TheVariants.{Read}
use Rattle.world.specs.declared.read_file.ReadFile.{ReadFile}
use Rattle.world.specs.declared.read_file.ReadFile.TheVariants as found
use Rattle.graph_run.specs.declared.ended.Ended.{Ended}
use Rattle.graph_run.specs.declared.refusal.Refusal.{Refusal}
use Rattle.graph_run.specs.declared.refusal.Refusal.TheVariants as refusal
use Rattle.graph_run.specs.declared.tested.Tested.{Tested}
use Rattle.graph_run.specs.declared.workflow.Workflow.{Workflow}
use Rattle.graph_run.specs.Lines.{refusal_line, status_of_refusal}

-- ---- jobs

-- the jobs that a job needs
abbrev pub needs_of : Workflow → ℕ → List ℕ
needs_of f job = unwrap_or (slice_get f.graph.needs job) []

-- what a job takes
abbrev pub takes_of : Workflow → ℕ → List Take
takes_of f job = unwrap_or (slice_get f.graph.takes job) []

-- the name of a job
abbrev pub name_of : Workflow → ℕ → List ℕ
name_of f job = unwrap_or (slice_get f.graph.names job) []

-- the output of a job
abbrev pub output_of : Workflow → ℕ → List ℕ
output_of f job = unwrap_or (slice_get (map (λ (a : Ask). a.output) f.asks) job) []

-- ---- jobs that have ended

-- the status with which a job has ended, if it has
abbrev pub status_of : ℕ → List Ended → Option ℕ
status_of job [] = None
status_of job (e ∷ es) = if e.job == job then Some e.status else status_of job es

-- a status is there, and is 0
abbrev pub is_zero : Option ℕ → Bool
is_zero None = false
is_zero (Some status) = status == 0

-- the job has ended with 0
abbrev pub is_done : List Ended → ℕ → Bool
is_done ended job = is_zero (status_of job ended)

-- ---- one take

-- the bytes give a notebook with this scrap
pub record HasScrap (bytes name : List ℕ) (v : Json) : Type 0 where
  pub notebook : Notebook
  pub read : IsNotebook bytes notebook
  pub is : find name (scraps notebook) ≡ Some v

-- the bytes give a notebook that has no scrap of this name
pub record LacksScrap (bytes name : List ℕ) : Type 0 where
  pub notebook : Notebook
  pub read : IsNotebook bytes notebook
  pub none : find name (scraps notebook) ≡ None

-- The bytes give no notebook, for this fault: they spell no tree nested at most 128 deep, or their tree is no notebook
-- of nbformat 4.0 to 4.5.
abbrev pub IsFaulty : List ℕ → LoadFault → Type 0
IsFaulty bytes (load_fault.NotJson f) = IsNoJson bytes f
IsFaulty bytes (load_fault.NotNotebook f) = IsNoNotebook bytes f
IsFaulty bytes (load_fault.NoTranslator language) = ⊥
IsFaulty bytes load_fault.NoMemory = ⊥

-- the journal after the read of the output of a job, of which at most 32 MiB are read
abbrev pub output_read : Workflow → ℕ → ReadFile → List Entry → List Entry
output_read f job answer before = Read (output_of f job) 33554432 answer ∷ before

-- the same, but for want of memory
abbrev pub Refuses : List ℕ → LoadFault → Type 0
Refuses bytes (load_fault.NotJson f) = IsNoJson bytes f
Refuses bytes (load_fault.NotNotebook f) = IsNoNotebook bytes f
Refuses bytes (load_fault.NoTranslator language) = ⊥
Refuses bytes load_fault.NoMemory = Unit {0}

-- the bytes give no notebook, and a job is refused so
abbrev pub IsUnread : List ℕ → Refusal → Type 0
IsUnread bytes refusal.Skipped = ⊥
IsUnread bytes (refusal.NotRead path) = ⊥
IsUnread bytes refusal.TooLarge = ⊥
IsUnread bytes (refusal.NotLoaded why) = IsFaulty bytes why
IsUnread bytes (refusal.NoScrap scrap job) = ⊥
IsUnread bytes refusal.NoMemory = ⊥

-- the bytes of an output give no value for a take, and a job is refused so
abbrev pub GivesNoValue : Workflow → Take → List ℕ → Refusal → Type 0
GivesNoValue f t bytes refusal.Skipped = ⊥
GivesNoValue f t bytes (refusal.NotRead path) = ⊥
GivesNoValue f t bytes refusal.TooLarge = ⊥
GivesNoValue f t bytes (refusal.NotLoaded why) = IsFaulty bytes why
GivesNoValue f t bytes (refusal.NoScrap scrap job) = (scrap ≡ t.scrap) × (job ≡ name_of f t.job) × LacksScrap bytes t.scrap
GivesNoValue f t bytes refusal.NoMemory = ⊥

-- A take gives this value, or the job is refused so, by what the read of the output answers.
pub data Takes (f : Workflow) (t : Take) (before : List Entry) : Result Json Refusal → List Entry → Type 0 where
  gives : (bytes : List ℕ) (v : Json) → HasScrap bytes t.scrap v → Takes f t before (Ok v) (output_read f t.job (found.Whole bytes) before)
  no_scrap : (bytes : List ℕ) → LacksScrap bytes t.scrap → Takes f t before (Err (refusal.NoScrap t.scrap (name_of f t.job))) (output_read f t.job (found.Whole bytes) before)
  faulty : (bytes : List ℕ) (why : LoadFault) → IsFaulty bytes why → Takes f t before (Err (refusal.NotLoaded why)) (output_read f t.job (found.Whole bytes) before)
  too_large : Takes f t before (Err refusal.TooLarge) (output_read f t.job found.Big before)
  cannot_read : Takes f t before (Err (refusal.NotRead (output_of f t.job))) (output_read f t.job found.Failed before)
  no_memory : Takes f t before (Err refusal.NoMemory) before
  no_memory_later : (answer : ReadFile) → Takes f t before (Err refusal.NoMemory) (output_read f t.job answer before)

-- ---- all takes of a job

-- these takes, one after the other, gave these parameters
pub data Taken (f : Workflow) (before : List Entry) : List Take → List (List ℕ × Json) → List Entry → Type 0 where
  none : Taken f before [] [] before
  more : {takes : List Take} {pairs : List (List ℕ × Json)} {past : List Entry} (t : Take) (bytes : List ℕ) (v : Json)
      → Taken f before takes pairs past → HasScrap bytes t.scrap v
      → Taken f before (takes ++ t ∷ []) (pairs ++ (t.param, v) ∷ []) (output_read f t.job (found.Whole bytes) past)

-- The takes give these parameters besides the file's, each in the place of its name or last; or the job is refused for the first
-- take that gives none.
pub data TakesAll (f : Workflow) (takes : List Take) (params : List (List ℕ × Json)) (before : List Entry) : Result (List (List ℕ × Json)) Refusal → List Entry → Type 0 where
  all : (pairs : List (List ℕ × Json)) {after : List Entry} → Taken f before takes pairs after → TakesAll f takes params before (Ok (with_pairs params pairs)) after
  refused : (first : List Take) (t : Take) (rest : List Take) (pairs : List (List ℕ × Json)) (why : Refusal) {past after : List Entry} → takes ≡ first ++ t ∷ rest
      → Taken f before first pairs past → Takes f t past (Err why) after → TakesAll f takes params before (Err why) after
  no_memory : (first rest : List Take) (pairs : List (List ℕ × Json)) {after : List Entry} → takes ≡ first ++ rest
      → Taken f before first pairs after → TakesAll f takes params before (Err refusal.NoMemory) after

-- ---- one job

-- what is asked of a job, with other parameters
abbrev pub with_params : Ask → List (List ℕ × Json) → Ask
with_params a params = record a { params = params }

-- what is asked of a job, or why it isn't run
abbrev pub given : Ask → Result (List (List ℕ × Json)) Refusal → Result Ask Refusal
given a (Ok params) = Ok (with_params a params)
given a (Err why) = Err why

-- The test of a job, by those that have ended: it is skipped where one that it needs hasn't ended with 0. Else this is asked of it,
-- or it is refused so, by what it takes.
pub data Tests (f : Workflow) (ended : List Ended) (job : ℕ) (before : List Entry) : Result Ask Refusal → List Entry → Type 0 where
  skipped : list_all (is_done ended) (needs_of f job) ≡ false → Tests f ended job before (Err refusal.Skipped) before
  tested : (a : Ask) (params : Result (List (List ℕ × Json)) Refusal) {after : List Entry} → list_all (is_done ended) (needs_of f job) ≡ true → slice_get f.asks job ≡ Some a
      → TakesAll f (takes_of f job) a.params before params after → Tests f ended job before (given a params) after
  no_memory : {after : List Entry} (a : Ask) (params : List (List ℕ × Json)) → list_all (is_done ended) (needs_of f job) ≡ true → slice_get f.asks job ≡ Some a → TakesAll f (takes_of f job) a.params before (Ok params) after
      → Tests f ended job before (Err refusal.NoMemory) after

-- ---- the jobs of a wave

-- no job is tested yet
abbrev pub none_tested : Tested
none_tested = record { jobs = []; asks = []; refused = []; lines = [] }

-- a job more that runs
abbrev pub one_passes : Tested → ℕ → Ask → Tested
one_passes t job a = record t { jobs = t.jobs ++ job ∷ []; asks = t.asks ++ a ∷ [] }

-- a job more that doesn't
abbrev pub one_is_refused : Workflow → Tested → ℕ → Refusal → Tested
one_is_refused f t job why = record t {
  refused = t.refused ++ (record { job = job; status = status_of_refusal why }) ∷ [];
  lines = t.lines ++ refusal_line (output_of f job) why;
}

-- these jobs were tested, one after the other, and this came of it
pub data TestsWave (f : Workflow) (ended : List Ended) (before : List Entry) : List ℕ → Tested → List Entry → Type 0 where
  none : TestsWave f ended before [] none_tested before
  passes : {wave : List ℕ} {t : Tested} {past after : List Entry} (job : ℕ) (a : Ask) → TestsWave f ended before wave t past → Tests f ended job past (Ok a) after
      → TestsWave f ended before (wave ++ job ∷ []) (one_passes t job a) after
  refuses : {wave : List ℕ} {t : Tested} {past after : List Entry} (job : ℕ) (why : Refusal) → TestsWave f ended before wave t past → Tests f ended job past (Err why) after
      → (why ≡ refusal.NoMemory → ⊥) → TestsWave f ended before (wave ++ job ∷ []) (one_is_refused f t job why) after

-- A job that runs: each job that it needs has ended with 0, and what is asked of it is the file's, with the parameters that it took by
-- reads of outputs.
pub record HasPassed (f : Workflow) (ended : List Ended) (job : ℕ) (a : Ask) : Type 0 where
  pub in_file : Ask
  pub at : slice_get f.asks job ≡ Some in_file
  pub needs : (need : ℕ) → Contains (needs_of f job) need → status_of need ended ≡ Some 0
  pub pairs : List (List ℕ × Json)
  pub before : List Entry
  pub after : List Entry
  pub taken : Taken f before (takes_of f job) pairs after
  pub is : a ≡ with_params in_file (with_pairs in_file.params pairs)

-- a job that doesn't run, for this reason
pub record HasFailed (f : Workflow) (ended : List Ended) (e : Ended) : Type 0 where
  pub why : Refusal
  pub before : List Entry
  pub after : List Entry
  pub test : Tests f ended e.job before (Err why) after
  pub status : e.status ≡ status_of_refusal why

-- the newest entry is the read of the output of a job
abbrev pub IsTakeRead : Workflow → List Entry → Type 0
IsTakeRead f now = (job : ℕ) × ((answer : ReadFile) × ((past : List Entry) × (now ≡ output_read f job answer past)))
