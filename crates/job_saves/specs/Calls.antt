-- Which calls the jobs of a run make of the world, by their entries in a journal, its newest entry first.
use Rattle.std.specs.Prelude.{◌≡◌, ◌⊎◌, ℕ, List, [], ◌∷◌, Bool, true, false, Option, Some, None}
use Rattle.jtext.specs.declared.json.Json.{Json}
use Rattle.words.specs.declared.ask.Ask.{Ask}
use Rattle.words.specs.Paths.{connection_of}
use Rattle.kspec.specs.Arguments.{AreFilled}
use Rattle.world.specs.declared.entry.Entry.{Entry}
use Rattle.world.specs.declared.entry.Entry.TheVariants as made
use Rattle.world.specs.Disk.{folder_of, place}
use Rattle.world.specs.Save.{temporary_of}
use Rattle.kernel_start.specs.declared.kernel.Kernel.{Kernel}
use Rattle.kernel_start.specs.declared.random_words.RandomPairs.{RandomPairs}
use Rattle.kernel_start.specs.ConnectionFile.{file_text, synced_text}
use Rattle.kernel_start.specs.Launch.{from_root}
use Rattle.job_saves.specs.Children.{has_child, ports_of}
use Rattle.job_saves.specs.Reads.{IsRead, IsKernelOf}
use Rattle.job_saves.specs.Sessions.{HasAsked, key_of}
use Rattle.job_saves.specs.Speaking.{IsPiece}

-- the jobs of a run, by their numbers, the working folder, whether they may start a child, and whether they began clean: what
-- was heard ended with a whole line, each child had its end, no job had asked for ports, no save of a job's output was
-- acknowledged, and no job writes to the output of another one
pub record Cast : Type 0 where
  pub job : ℕ → Option Ask
  pub here : List ℕ
  pub starts : Bool
  pub clean : Bool

-- where the jobs began clean, the job of this number has no child
abbrev pub IsChildless : Bool → ℕ → List Entry → Type 0
IsChildless clean number past = clean ≡ true → has_child number past ≡ false

-- where the jobs began clean, the job of this number has asked for no ports
abbrev pub IsPortless : Bool → ℕ → List Entry → Type 0
IsPortless clean number past = clean ≡ true → ports_of number past ≡ None

-- a file that a job writes beside its output: the temporary file of that, or its connection file while it has no child
abbrev pub IsOwnFile : Bool → ℕ → Ask → List Entry → List ℕ → Type 0
IsOwnFile clean number a past path = (path ≡ temporary_of a.output) ⊎ ((path ≡ connection_of a.output) × IsChildless clean number past)

-- The kernel of a job is found and ready to be started: its connection file has the ports that were last given for the job
-- and the key of its session, and is synced (jupyter_client, "Connection files"). The words of the session are the last that were
-- drawn, and all that was asked since they were is of this job's first save, its ports and that file.
pub record IsReady (number : ℕ) (a : Ask) (past : List Entry) (kernel : Kernel) : Type 0 where
  pub found : IsKernelOf a past kernel
  pub ports : List ℕ
  pub given : ports_of number past ≡ Some ports
  pub pairs : RandomPairs
  pub session : HasAsked number a.output pairs ports past
  pub file : place past (connection_of a.output) ≡ synced_text (file_text ports (key_of pairs))

-- a start of such a kernel (jupyter_client, "Kernel specs"): its arguments with their names replaced, its variables, and the
-- folder that was asked for
pub record IsStart (here : List ℕ) (number : ℕ) (a : Ask) (past : List Entry) (argv : List (List ℕ)) (env : List (List ℕ × Json)) (dir : List ℕ) : Type 0 where
  pub kernel : Kernel
  pub ready : IsReady number a past kernel
  pub filled : AreFilled (from_root here (connection_of a.output)) kernel.folder kernel.spec.argv argv
  pub variables : env ≡ kernel.spec.env
  pub folder : dir ≡ a.cwd

-- A call that the job of this number makes behind these entries, in this working folder, whether it may start a child, and
-- whether the jobs began clean.
abbrev pub IsCallOf : List ℕ → Bool → Bool → ℕ → Ask → List Entry → Entry → Type 0
IsCallOf here starts clean number a past (made.Read path most found) = IsRead a past path most
IsCallOf here starts clean number a past (made.Created path did) =
    (path ≡ temporary_of a.output) ⊎ ((path ≡ connection_of a.output) × IsChildless clean number past × (starts ≡ true))
IsCallOf here starts clean number a past (made.Wrote path bytes did) = IsOwnFile clean number a past path
IsCallOf here starts clean number a past (made.Synced path did) = IsOwnFile clean number a past path
IsCallOf here starts clean number a past (made.Renamed from to did) = (from ≡ temporary_of a.output) × (to ≡ a.output)
IsCallOf here starts clean number a past (made.DirSynced dir did) = dir ≡ folder_of a.output
IsCallOf here starts clean number a past (made.Removed path did) = path ≡ connection_of a.output
IsCallOf here starts clean number a past (made.Ports job ports) = (job ≡ number) × IsPortless clean number past × (starts ≡ true)
IsCallOf here starts clean number a past (made.Started job argv env dir did) =
    (job ≡ number) × IsStart here number a past argv env dir × IsChildless clean number past × (starts ≡ true)
IsCallOf here starts clean number a past (made.Looked job status) = job ≡ number
IsCallOf here starts clean number a past (made.Killed job) = job ≡ number
IsCallOf here starts clean number a past (made.Moment ms) = Unit {0}
IsCallOf here starts clean number a past (made.Word word) = Unit {0}
IsCallOf here starts clean number a past (made.Said bytes did) = IsPiece clean a bytes did past
-- no call of a connection, and no wait
IsCallOf here starts clean number a past _ = ⊥

-- a call that one of the jobs makes behind these entries
pub record IsCallBy (c : Cast) (past : List Entry) (entry : Entry) : Type 0 where
  pub number : ℕ
  pub ask : Ask
  pub has : c.job number ≡ Some ask
  pub is : IsCallOf c.here c.starts c.clean number ask past entry

-- the newest entry is a call of one of the jobs
abbrev pub IsCall : Cast → List Entry → Type 0
IsCall c [] = ⊥
IsCall c (entry ∷ past) = IsCallBy c past entry
