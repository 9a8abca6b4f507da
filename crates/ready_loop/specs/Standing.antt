-- For which journals a loop stands. A journal has its newest entry first.
use Rattle.std.specs.Prelude.{
  ◌⊎◌,
  ◌≡◌,
  ◌<◌,
  ◌+◌,
  ◌++◌,
  ◌&&◌,
  not,
  ℕ,
  length,
  List,
  [],
  ◌∷◌,
  Bool,
  true,
  false,
  if◌then◌else◌,
  Option,
  Some,
  None,
  slice_get,
}
use Rattle.world.specs.declared.entry.Entry.{Entry}
use Rattle.world.specs.declared.entry.Entry.TheVariants as made
use Rattle.world.specs.declared.side.Side.TheVariants as side
use Rattle.world.specs.Jobs.{conn_of}
use Rattle.world.specs.Moments.{Since}
use Rattle.world.specs.Told.{Between}
use Rattle.world.specs.Parts.{OnWire, OnClock, part_of}
use Rattle.world.specs.Places.{Status, status, is_at}
use Rattle.world.specs.Waits.{is_wait, wait_count}
use Rattle.ready_loop.specs.declared.end.End.{End}
use Rattle.ready_loop.specs.declared.end.End.TheVariants.{No}
use Rattle.ready_loop.specs.declared.link.Link.{Link}
use Rattle.ready_loop.specs.declared.readiness.Loop.{Loop}
use Rattle.ready_loop.specs.declared.stage.Stage.TheVariants.{Fresh, Begun}
use Rattle.ready_loop.specs.History.{History}
use Rattle.ready_loop.specs.Link.{is_found, is_named, is_known, is_begun}
use Rattle.ready_loop.specs.Queues.{Held, held_in}

-- whether a write has found the connection at a place ended since its last connect, after an entry
abbrev pub write_ended_after : ℕ → Entry → Bool → Bool
write_ended_after p (made.Connected conn port how) was = if is_at p conn then false else was
write_ended_after p (made.Ended conn side.Write) was = if is_at p conn then true else was
write_ended_after p _ was = was

-- whether a write has found the connection at a place ended since its last connect
abbrev pub write_ended : ℕ → List Entry → Bool
write_ended p [] = false
write_ended p (entry ∷ past) = write_ended_after p entry (write_ended p past)

-- the bytes put on a connection, where this loop has begun it
abbrev pub put_by : Bool → List ℕ → List ℕ
put_by true bytes = bytes
put_by false bytes = []

-- the bytes that this loop has put at a place
abbrev pub put_at : History → List Entry → ℕ → List ℕ
put_at h journal p = put_by (h.begun p) (status p journal).put

-- all that was queued is what was put and what is still held, in this order, and those put are counted
pub record Sends (held : Held) (queued put : List ℕ) : Type 0 where
  pub whole : queued ≡ put ++ held.rest
  pub taken : held.taken ≡ length put

-- an end is found where a write found it that no answer has named
pub record EndIs (end : End) (begun named ended : Bool) : Type 0 where
  pub found : is_found end ≡ begun && (ended && not named)
  pub told : is_named end ≡ named

-- what is kept of a connection is what the journal says of it
pub record StandsAt (link : Link) (held : Held) (begun : Bool) (queued : List ℕ) (named : Bool) (s : Status) (ended : Bool) : Type 0 where
  pub awake : link.awake ≡ s.awake
  pub writable : link.writable ≡ s.writable
  pub failed : link.failed ≡ s.failed
  pub refused : link.refused ≡ s.refused
  pub reads : link.awake ≡ true → link.reads ≡ s.count
  pub known : is_known link.stage ≡ begun
  pub stage : is_begun link.stage ≡ s.begun
  pub port : link.stage ≡ Begun → s.port ≡ Some link.port
  -- only a connection that was begun has failed, and only one that is up was reported
  pub failed_begun : s.failed ≡ true → s.begun ≡ true
  pub reported : s.awake ≡ true → s.up ≡ true
  pub open_up : s.writable ≡ true → s.up ≡ true
  -- one that is up was begun, is not refused and was not found ended
  pub up_begun : s.up ≡ true → s.begun ≡ true
  pub up_calm : s.up ≡ true → s.refused ≡ None
  pub up_whole : s.up ≡ true → link.end ≡ No
  -- one that is refused was begun, has put no byte and was not found ended
  pub refused_begun : (at : ℕ) → s.refused ≡ Some at → s.begun ≡ true
  pub refused_unused : (at : ℕ) → s.refused ≡ Some at → s.put ≡ []
  pub refused_whole : (at : ℕ) → s.refused ≡ Some at → link.end ≡ No
  pub fresh_whole : link.stage ≡ Fresh → link.end ≡ No
  pub sends : Sends held queued (put_by begun s.put)
  pub ends : EndIs link.end begun named ended

-- the table of connections, the queues and the waits that are left stand for a journal
pub record Stand (links : List Link) (queues : List Held) (left : ℕ) (h : History) (journal : List Entry) : Type 0 where
  pub size : length links ≡ 64
  pub waits : wait_count journal + left ≡ h.turns
  pub each : (p : ℕ) (link : Link) → slice_get links p ≡ Some link
      → StandsAt link (held_in (slice_get queues p))
      (h.begun p) (h.queued p) (h.named p) (status p journal) (write_ended p journal)

-- [a loop stands for a journal, after these calls]
abbrev pub StandsFor : Loop → History → List Entry → Type 0
StandsFor l h journal = Stand l.links l.queues l.left h journal

-- a connection that was never begun, or was closed
pub record IsShut (s : Status) : Type 0 where
  pub begun : s.begun ≡ false
  pub awake : s.awake ≡ false
  pub writable : s.writable ≡ false
  pub up : s.up ≡ false
  pub failed : s.failed ≡ false
  pub refused : s.refused ≡ None

-- each connection that was begun was closed
abbrev pub AllShut : List Entry → Type 0
AllShut journal = (p : ℕ) → p < 64 → IsShut (status p journal)

-- a call took a loop from each journal for which it stood to one for which it stands then,
-- and each new entry is by the rule
pub record Goes (rule : History → List Entry → Type 0) (step : History → History) (old new : Loop) (before after : List Entry) : Type 0 where
  pub so : (h : History) → StandsFor old h before → StandsFor new (step h) after × Since (rule h) before after

-- a call of a connection, a wait or a look at the clock
abbrev pub IsLoopEntry : Entry → Type 0
-- asking for a job's ports is no call of a connection
IsLoopEntry (made.Ports job ports) = ⊥
IsLoopEntry entry = (part_of entry ≡ OnWire) ⊎ (part_of entry ≡ OnClock)

-- the newest entry is one
abbrev pub IsOfLoop : List Entry → Type 0
IsOfLoop [] = ⊥
IsOfLoop (entry ∷ past) = IsLoopEntry entry

-- no other calls were made
abbrev pub CallsOfLoop : {W : Type 0} → (W → Option (List Entry)) → W → W → Type 0
CallsOfLoop journal old new = Between journal old new (Since IsOfLoop)

-- an entry that is neither of a connection nor a wait
pub record IsElsewhere (entry : Entry) : Type 0 where
  pub conn : conn_of entry ≡ None
  pub wait : is_wait entry ≡ false

-- the newest entry is neither of a connection nor a wait
abbrev pub MadeElsewhere : List Entry → Type 0
MadeElsewhere [] = ⊥
MadeElsewhere (entry ∷ past) = IsElsewhere entry
