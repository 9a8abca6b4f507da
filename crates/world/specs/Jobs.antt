-- The part of one job in the journal, its newest entry first.
use Rattle.std.specs.Prelude.{
  ◌≡◌,
  ◌==◌,
  ◌||◌,
  ℕ,
  List,
  [],
  ◌∷◌,
  length,
  Bool,
  false,
  Option,
  Some,
  None,
  if◌then◌else◌,
}
use Rattle.world.specs.declared.conn.Conn.{Conn}
use Rattle.world.specs.declared.entry.Entry.{Entry}
use Rattle.world.specs.declared.entry.Entry.TheVariants.{
  Ports,
  Connected,
  Closed,
  Got,
  Dry,
  Ended,
  Refused,
  ReadFailed,
  Put,
  Stuck,
  PutFailed,
  Started,
  Looked,
  Killed,
}

-- the connection of which an entry is; none of a wait, which is of them all
abbrev pub conn_of : Entry → Option Conn
conn_of (Connected conn port how) = Some conn
conn_of (Closed conn) = Some conn
conn_of (Got conn room bytes) = Some conn
conn_of (Dry conn) = Some conn
conn_of (Ended conn by) = Some conn
conn_of (Refused conn by) = Some conn
conn_of (ReadFailed conn) = Some conn
conn_of (Put conn bytes) = Some conn
conn_of (Stuck conn) = Some conn
conn_of (PutFailed conn) = Some conn
conn_of _ = None

-- the job of a connection, where there is one
abbrev pub job_at : Option Conn → Option ℕ
job_at (Some conn) = Some conn.job
job_at None = None

-- the job that an entry names, by its number or by a connection
abbrev pub job_of : Entry → Option ℕ
job_of (Ports job ports) = Some job
job_of (Started job argv env dir did) = Some job
job_of (Looked job status) = Some job
job_of (Killed job) = Some job
job_of entry = job_at (conn_of entry)

-- the newest entry names this job
abbrev pub IsOfJob : ℕ → List Entry → Type 0
IsOfJob job [] = ⊥
IsOfJob job (entry ∷ past) = job_of entry ≡ Some job

-- an entry closes a connection of this job
abbrev pub closes : ℕ → Entry → Bool
closes job (Closed conn) = conn.job == job
closes job _ = false

-- a connection of this job was closed
abbrev pub is_shut : ℕ → List Entry → Bool
is_shut job [] = false
is_shut job (entry ∷ past) = closes job entry || is_shut job past

-- the journal before the first close of a connection of this job
abbrev pub before_shut : ℕ → List Entry → List Entry
before_shut job [] = []
before_shut job (entry ∷ past) = if is_shut job (entry ∷ past) then before_shut job past else entry ∷ past

-- the position of that close, or the length of the journal where there is none
abbrev pub shut_at : ℕ → List Entry → ℕ
shut_at job journal = length (before_shut job journal)
