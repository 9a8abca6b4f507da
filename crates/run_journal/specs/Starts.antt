-- With what a job's child is started, and where its connections go (jupyter_client, "Kernel specs" and "Connection files").
use Rattle.std.specs.Prelude.{◌≡◌, ◌⊎◌, ℕ, ◌<◌, ◌==◌, List, [], ◌∷◌, Bool, true, false, Option, Some, None, if◌then◌else◌, slice_get, IsTrue}
use Rattle.jtext.specs.declared.json.Json.{Json}
use Rattle.jtext.specs.Print.{compact}
use Rattle.kspec.specs.declared.start.Spec.{Spec}
use Rattle.kspec.specs.Arguments.{AreFilled}
use Rattle.kspec.specs.Connection as files
use Rattle.world.specs.declared.chan.Chan.{Chan}
use Rattle.world.specs.declared.chan.Chan.TheVariants as chan
use Rattle.world.specs.declared.entry.Entry.{Entry}
use Rattle.world.specs.declared.entry.Entry.TheVariants as made
use Rattle.world.specs.Disk.{place}
use Rattle.world.specs.Places.{time}
use Rattle.words.specs.Paths.{connection_of}
use Rattle.kernel_start.specs.Launch.{from_root}
use Rattle.run_journal.specs.Job.{Job}
use Rattle.run_journal.specs.Parts.{saves_of}
use Rattle.run_journal.specs.Due.{all_along}

-- what a job starts its child by: the kernel's spec and its folder, the working folder, the child's folder, and the key
pub record Launch : Type 0 where
  pub spec : Spec
  pub folder : List ℕ
  pub here : List ℕ
  pub cwd : List ℕ
  pub key : List ℕ

-- ---- ports

-- the place of a channel's port among the five: shell, IOPub, stdin, control and heartbeat
abbrev pub port_place : Chan → ℕ
port_place chan.Shell = 0
port_place chan.Control = 3
port_place chan.Iopub = 1
port_place chan.Heart = 4

-- the ports that were drawn for the job last
abbrev pub ports_of : Job → List Entry → Option (List ℕ)
ports_of j [] = None
ports_of j (made.Ports job (Some ports) ∷ past) = if job == j.number then Some ports else ports_of j past
ports_of j (_ ∷ past) = ports_of j past

-- the port at this place of these ports is this one
abbrev pub is_port : ℕ → ℕ → Option (List ℕ) → Bool
is_port at port None = false
is_port at port (Some ports) = is_here (slice_get ports at)
  where
    is_here : Option ℕ → Bool
    is_here None = false
    is_here (Some other) = other == port

-- a connect of the job goes to the port of its channel
abbrev pub connects_rightly : Job → List Entry → Bool
connects_rightly j (made.Connected conn port how ∷ past) =
    if conn.job == j.number then is_port (port_place conn.chan) port (ports_of j past) else true
connects_rightly j _ = true

-- each does
abbrev pub GoesToPorts : Job → List Entry → Type 0
GoesToPorts j journal = IsTrue (all_along (connects_rightly j) journal)

-- ---- the child

-- A start of the job's child: the arguments of the spec with its names replaced, the environment of the spec, the job's
-- folder; and before it the connection file had been written, of the job's ports and its key.
pub record StartsBy (launch : Launch) (j : Job) (argv : List (List ℕ)) (env : List (List ℕ × Json)) (dir : List ℕ) (past : List Entry) : Type 0 where
  pub arguments : AreFilled (from_root launch.here (connection_of j.output)) launch.folder launch.spec.argv argv
  pub environment : env ≡ launch.spec.env
  pub folder : dir ≡ launch.cwd
  pub ports : List ℕ
  pub drawn : ports_of j past ≡ Some ports
  pub written : (place past (connection_of j.output)).fresh ≡ Some (compact (files.connection ports launch.key))

-- each start of the job's child is such a one
abbrev pub StartsRightly : Launch → Job → List Entry → Type 0
StartsRightly launch j [] = Unit {0}
StartsRightly launch j (made.Started job argv env dir did ∷ past) = (job ≡ j.number → StartsBy launch j argv env dir past) × StartsRightly launch j past
StartsRightly launch j (_ ∷ past) = StartsRightly launch j past

-- The job's child was started at this clock, after its first save was acknowledged, and rightly.
abbrev pub StartsAt : Launch → Job → ℕ → List Entry → Type 0
StartsAt launch j clock [] = ⊥
StartsAt launch j clock (made.Started job argv env dir did ∷ past) =
    ((job ≡ j.number) × (time past ≡ clock) × (0 < saves_of j past) × StartsBy launch j argv env dir past) ⊎ StartsAt launch j clock past
StartsAt launch j clock (_ ∷ past) = StartsAt launch j clock past
