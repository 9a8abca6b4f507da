-- How the parts of an execution agree: its core, its notebook and the request that stands.
use Rattle.std.specs.Prelude.{◌≡◌, ℕ, ◌+◌, ◌<◌, ◌≤◌, ◌^◌, length, true, false, is_some}
use Rattle.cell_core.specs.declared.act.Act.{Act}
use Rattle.cell_core.specs.declared.act.Act.TheVariants.{Nothing, Send, Interrupt, Save, Stop}
use Rattle.cell_core.specs.declared.why.Why.{Why}
use Rattle.cell_core.specs.declared.why.Why.TheVariants.{BadPeer}
use Rattle.cell_core.specs.Holds.{is_save}
use Rattle.cell_core.specs.Stops.{asked_of}
use Rattle.cell_core.specs.Sending.{IsInOrder, SendsOn, next_of}
use Rattle.cell_core.specs.StandsFor.{task_of, awaits_saved_of}
use Rattle.job_notebook.specs.State.{notebook_of, settled_of, begun_of}
use Rattle.job_saves.specs.Left.{OutputAt, acks_at}
use Rattle.job_run.specs.Told.{Hears, StopsFor}
use Rattle.job_run.specs.Counted.{IsCounted}
use Rattle.job_run.specs.declared.execution.Execution.{Execution}

-- the cells to run are in order, no cell has begun or is settled beyond those of the core, no more requests were sent than cells begun,
-- and the core was told what came
pub record Holds (x : Execution) : Type 0 where
  pub ordered : IsInOrder (task_of x.core)
  pub cells : length (notebook_of x.book).cells ≡ (task_of x.core).cells
  pub begun : begun_of x.book ≤ next_of x.core
  pub settled : settled_of x.book ≤ next_of x.core
  pub asked : is_some x.request ≡ true → 0 < begun_of x.book
  pub sent : x.sent ≤ begun_of x.book
  pub early : x.clock < 2 ^ 47
  pub heard : Hears x.core x.clock (is_some x.broken)

-- the act that the core has answered last may be done: a cell's request is of one that comes after those before, and a save
-- settles no fewer cells than the last one, as many as the core has asked for; where it stops the job its cause stands
pub record IsToDo (x : Execution) (act : Act) : Type 0 where
  pub was : ℕ
  pub begun : begun_of x.book ≤ was
  pub settled : settled_of x.book ≤ was
  pub sends : SendsOn (task_of x.core) was (next_of x.core) act
  pub awaits : awaits_saved_of x.core ≡ is_save act
  pub stops : (cause : Why) → act ≡ Stop cause → StopsFor (task_of x.core) cause
  pub named : act ≡ Stop BadPeer → is_some x.broken ≡ true
  pub settles : (settled : ℕ) → act ≡ Save settled → asked_of x.core ≡ settled

-- no save is awaited
abbrev pub IsCalm : Execution → Type 0
IsCalm x = awaits_saved_of x.core ≡ false

-- a message may have been queued, and nothing else has changed
abbrev pub IsSaid : Execution → Execution → Type 0
IsSaid old new = new ≡ record old { session = new.session; lines = new.lines }

-- a request or a ping may have been queued, and nothing else has changed
abbrev pub IsAsked : Execution → Execution → Type 0
IsAsked old new = new ≡ record old { session = new.session; lines = new.lines; asking = new.asking; pings = new.pings }

-- the session made so many further requests, and nothing else of it has changed
abbrev pub Asks : ℕ → Execution → Execution → Type 0
Asks n old new = new.session ≡ record old.session { made = old.session.made + n }

-- at most one request was made, in the same session and under the same key
pub record AsksOnce (old new : Execution) : Type 0 where
  pub name : new.session.name ≡ old.session.name
  pub key : new.session.key ≡ old.session.key
  pub made : new.session.made ≤ old.session.made + 1

-- how many requests an act makes: that of a cell, and that to interrupt it
abbrev pub requests_of : Act → ℕ
requests_of (Send cell) = 1
requests_of Interrupt = 1
requests_of _ = 0

-- what may be done stays so
abbrev pub KeepsToDo : Execution → Execution → Type 0
KeepsToDo old new = (act : Act) → IsToDo old act → IsToDo new act

-- nothing has happened yet, and the first save is awaited
pub record IsFirst (x : Execution) : Type 0 where
  pub holds : Holds x
  pub begun : begun_of x.book ≡ 0
  pub settled : settled_of x.book ≡ 0
  pub next : next_of x.core ≡ 0
  pub awaits : awaits_saved_of x.core ≡ true
  pub asks : asked_of x.core ≡ 0
  pub counted : (m : OutputAt) → acks_at m ≡ 0 → IsCounted x Nothing m
