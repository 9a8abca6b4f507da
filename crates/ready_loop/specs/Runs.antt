-- Any list of calls of one loop on one world, between which nobody else begins, reads, writes, closes or waits, and what holds of each entry.
use Rattle.std.specs.Prelude.{◌≡◌, ◌<◌, ◌≤◌, ℕ, List, [], ◌∷◌, Bool, true, false, Option, Result}
use Rattle.jtext.specs.declared.no_memory.NoMemory.{NoMemory}
use Rattle.world.specs.declared.conn.Conn.{Conn}
use Rattle.world.specs.declared.connected.Connected.{Connected}
use Rattle.world.specs.declared.did.Did.{Did}
use Rattle.world.specs.declared.entry.Entry.{Entry}
use Rattle.world.specs.declared.entry.Entry.TheVariants as made
use Rattle.world.specs.declared.put.Put.{Put}
use Rattle.world.specs.declared.reports.Reports.{Reports}
use Rattle.world.specs.Moments.{Since}
use Rattle.world.specs.Places.{status, place_of}
use Rattle.world.specs.Told.{write_entry}
use Rattle.world.specs.Waits.{is_after_wait}
use Rattle.ready_loop.specs.declared.fault.LoopFault.{LoopFault}
use Rattle.ready_loop.specs.declared.next.Next.{Next}
use Rattle.ready_loop.specs.declared.readiness.Loop.{Loop}
use Rattle.ready_loop.specs.Begins.{BeginMoment, CloseMoment}
use Rattle.ready_loop.specs.Between.{ReadsAll}
use Rattle.ready_loop.specs.History.{History, no_change, after_begin, after_queue, after_next, after_names}
use Rattle.ready_loop.specs.Offers.{IsBegunAgain, JobMoment, OfferMoment}
use Rattle.ready_loop.specs.Reads.{IsReadOf, ReadMoment}
use Rattle.ready_loop.specs.Standing.{StandsFor, Goes, IsElsewhere, MadeElsewhere}
use Rattle.ready_loop.specs.States.{IsCalm}
use Rattle.ready_loop.specs.Waits.{NoneDue, Turned, Looked}

-- one call (nobody reads the clock between an `offer` and the `turn` or `look` behind it), from a loop, what was asked of it and a journal to those after it
pub data Calls (old : Loop) (h : History) (before : List Entry) : Loop → History → List Entry → Type 0 where
  begins : (job : ℕ) (heart : Bool) (result : Result (Unit {0}) LoopFault) (new : Loop) (after : List Entry)
      → Goes BeginMoment (after_begin job heart result) old new before after
      → Calls old h before new (after_begin job heart result h) after
  queues : (conn : Conn) (bytes : List ℕ) (result : Result (Unit {0}) NoMemory) (new : Loop)
      → (StandsFor old h before → StandsFor new (after_queue conn bytes result h) before)
      → Calls old h before new (after_queue conn bytes result h) before
  offers_job : (job : ℕ) (new : Loop) (after : List Entry) → Goes (JobMoment job) no_change old new before after
      → Calls old h before new h after
  offers : (result : Result (List Bool) LoopFault) (new : Loop) (after : List Entry)
      → Goes (OfferMoment false) (after_names result) old new before after
      → Calls old h before new (after_names result h) after
  turns : (due : Option ℕ) (result : Result ℕ LoopFault) (last : ℕ) (new : Loop) (after : List Entry)
      → IsCalm last old → Turned due result last old new before after → Calls old h before new h after
  looks : (jobs : List Bool) (result : Result (List Bool) LoopFault) (last : ℕ) (new : Loop) (after : List Entry)
      → IsCalm last old → Looked jobs result last old new before after
      → Calls old h before new (after_names result h) after
  reads : (result : Result Next LoopFault) (new : Loop) (after : List Entry)
      → Goes ReadMoment (after_next result) old new before after
      → Calls old h before new (after_next result h) after
  closes : (new : Loop) (after : List Entry) → Goes CloseMoment no_change old new before after
      → Calls old h before new h after
  elsewhere : (after : List Entry) → Since MadeElsewhere before after → Calls old h before old h after

-- any list of calls
pub data Runs (first : Loop) (asked : History) (start : List Entry) : Loop → History → List Entry → Type 0 where
  none : Runs first asked start first asked start
  then : (l new : Loop) (h k : History) (before after : List Entry) → Runs first asked start l h before
      → Calls l h before new k after → Runs first asked start new k after

-- a wait of a loop: at most 500 ms, 0 where a connection is awake, after each that was awake was read and
-- each of which a call had failed was closed, and no refused connection is due to be begun again
pub record IsFairWait (ms : ℕ) (past : List Entry) : Type 0 where
  pub most : ms ≤ 500
  pub sleeps : 0 < ms → (p : ℕ) → p < 64 → (status p past).awake ≡ false
  pub sound : (p : ℕ) → p < 64 → (status p past).failed ≡ false
  pub reads : ReadsAll past
  pub calm : NoneDue past

-- the entries that a run of a loop may hold
pub data IsFair (past : List Entry) : Entry → Type 0 where
  -- a read of a connection that is awake and gave bytes less than 64 times since the last wait
  read : (conn : Conn) (entry : Entry) → IsReadOf conn past entry → IsFair past entry
  -- a write to one that is open to writing
  write : (conn : Conn) (answer : Put) (piece : List ℕ) → (status (place_of conn) past).writable ≡ true
      → IsFair past (write_entry conn answer piece)
  -- a first connect
  begun : (conn : Conn) (port : ℕ) (how : Connected) → (status (place_of conn) past).begun ≡ false
      → IsFair past (made.Connected conn port how)
  -- another of a connection that was refused, at its time or in a last look
  again : (forced : Bool) (conn : Conn) (port : ℕ) (how : Connected) → IsBegunAgain forced conn port past
      → IsFair past (made.Connected conn port how)
  -- a close of one that was begun
  closed : (conn : Conn) → (status (place_of conn) past).begun ≡ true → IsFair past (made.Closed conn)
  waited : (ms : ℕ) (reports : Reports) (did : Did) → IsFairWait ms past
      → IsFair past (made.Waited ms reports did)
  -- the clock, directly behind a wait
  clock : (ms : ℕ) → is_after_wait past ≡ true → IsFair past (made.Moment ms)
  other : (entry : Entry) → IsElsewhere entry → IsFair past entry

-- the newest entry is such a one
abbrev pub FairMoment : List Entry → Type 0
FairMoment [] = ⊥
FairMoment (entry ∷ past) = IsFair past entry
