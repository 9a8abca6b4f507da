-- What offering adds to a journal, its newest entry first.
use Rattle.std.specs.Prelude.{◌≡◌, ◌⊎◌, ◌<◌, ◌≤◌, ◌+◌, ◌++◌, ◌&&◌, not, ℕ, length, List, [], ◌∷◌, Bool, true, false, Some, None, Result, Ok, Err, slice_get, unwrap_or, ◌/◌}
use Rattle.world.specs.declared.conn.Conn.{Conn}
use Rattle.world.specs.declared.connected.Connected.{Connected}
use Rattle.world.specs.declared.connected.Connected.TheVariants as connected
use Rattle.world.specs.declared.entry.Entry.{Entry}
use Rattle.world.specs.declared.entry.Entry.TheVariants as made
use Rattle.world.specs.declared.put.Put.{Put}
use Rattle.world.specs.declared.put.Put.TheVariants as put
use Rattle.world.specs.Told.{write_entry}
use Rattle.world.specs.Moments.{Since}
use Rattle.world.specs.Places.{status, time, place_of}
use Rattle.ready_loop.specs.declared.fault.LoopFault.{LoopFault}
use Rattle.ready_loop.specs.declared.fault.LoopFault.TheVariants.{NetFault, Spent}
use Rattle.ready_loop.specs.History.{History}
use Rattle.ready_loop.specs.Refusals.{RefusesUnused}
use Rattle.ready_loop.specs.Standing.{write_ended, StandsFor}
use Rattle.ready_loop.specs.declared.readiness.Loop.{Loop}
use Rattle.ready_loop.specs.States.{refused_in}

-- a refused connection is begun again on its port, 200 ms after the clock before its refusal or in a last look
pub record IsBegunAgain (forced : Bool) (conn : Conn) (port : ℕ) (past : List Entry) : Type 0 where
  pub at : ℕ
  pub refused : (status (place_of conn) past).refused ≡ Some at
  pub due : (forced ≡ true) ⊎ (at + 200 ≤ time past)
  pub same_port : (status (place_of conn) past).port ≡ Some port

-- to a connection that is open to writing all that was queued and not put is offered
pub record IsOfferedTo (queued : List ℕ) (conn : Conn) (piece : List ℕ) (past : List Entry) : Type 0 where
  pub writable : (status (place_of conn) past).writable ≡ true
  pub sound : (status (place_of conn) past).failed ≡ false
  pub some : 0 < length piece
  pub rest : (status (place_of conn) past).put ++ piece ≡ queued

-- an entry of a connection that begins it again, or offers it what is queued
pub data Offers (forced : Bool) (h : History) (past : List Entry) (conn : Conn) : Entry → Type 0 where
  again : (port : ℕ) (how : Connected) → IsBegunAgain forced conn port past
      → Offers forced h past conn (made.Connected conn port how)
  writes : (answer : Put) (piece : List ℕ) → IsOfferedTo (h.queued (place_of conn)) conn piece past
      → RefusesUnused (write_entry conn answer piece ∷ past) → Offers forced h past conn (write_entry conn answer piece)

-- the newest entry does so
abbrev pub OfferMoment : Bool → History → List Entry → Type 0
OfferMoment forced h [] = ⊥
OfferMoment forced h (entry ∷ past) = (conn : Conn) × Offers forced h past conn entry

-- at this place
abbrev pub OfferAt : Bool → ℕ → History → List Entry → Type 0
OfferAt forced place h [] = ⊥
OfferAt forced place h (entry ∷ past) = (conn : Conn) × (place_of conn ≡ place) × Offers forced h past conn entry

-- the job of this number is one of these
abbrev pub is_looked : List Bool → ℕ → Bool
is_looked jobs job = unwrap_or (slice_get jobs job) false

-- for a connection of one of these jobs, in a last look
abbrev pub LookMoment : List Bool → History → List Entry → Type 0
LookMoment jobs h [] = ⊥
LookMoment jobs h (entry ∷ past) = (conn : Conn) × (is_looked jobs conn.job ≡ true) × Offers true h past conn entry

-- for a connection of this job, at its time
abbrev pub JobMoment : ℕ → History → List Entry → Type 0
JobMoment job h [] = ⊥
JobMoment job h (entry ∷ past) = (conn : Conn) × (conn.job ≡ job) × Offers false h past conn entry

-- a journal with more entries
abbrev pub Extends : List Entry → List Entry → Type 0
Extends before after = Since (λ now. Unit {0}) before after

-- a connect of the connection at a place is among the new entries
pub data Connects (p : ℕ) (before : List Entry) : List Entry → Type 0 where
  connects : (conn : Conn) (port : ℕ) (how : Connected) (past : List Entry) → Extends before past
      → place_of conn ≡ p → Connects p before (made.Connected conn port how ∷ past)
  later : (entry : Entry) (past : List Entry) → Connects p before past → Connects p before (entry ∷ past)

-- where it was refused and that is forced, the connection at a place was begun again
pub record BeginsAt (forced : Bool) (place : ℕ) (old : Loop) (before after : List Entry) : Type 0 where
  pub so : (h : History) → StandsFor old h before → forced ≡ true → (at : ℕ)
      → refused_in (slice_get old.links place) ≡ Some at → Connects place before after

-- each connection of these jobs that was refused was begun again, at the places below this one
pub record BeginsBelow (n : ℕ) (jobs : List Bool) (old : Loop) (before after : List Entry) : Type 0 where
  pub so : (h : History) → StandsFor old h before → (p at : ℕ) → p < n → is_looked jobs (p / 4) ≡ true
      → refused_in (slice_get old.links p) ≡ Some at → Connects p before after

-- the newest entry is a failed call of this connection
abbrev pub IsFailureOf : Conn → List Entry → Type 0
IsFailureOf conn [] = ⊥
IsFailureOf conn (made.Connected c port connected.Failed ∷ past) = c ≡ conn
IsFailureOf conn (made.PutFailed c ∷ past) = c ≡ conn
IsFailureOf conn _ = ⊥

-- a connect, where it failed
abbrev pub ConnectCame : Conn → Connected → List Entry → Type 0
ConnectCame conn connected.Begun after = Unit {0}
ConnectCame conn connected.Refused after = Unit {0}
ConnectCame conn connected.Failed after = IsFailureOf conn after

-- a write, where it failed
abbrev pub PutCame : Conn → Put → List Entry → Type 0
PutCame conn (put.Took n) after = Unit {0}
PutCame conn put.Stuck after = Unit {0}
PutCame conn put.Ended after = Unit {0}
PutCame conn put.Refused after = Unit {0}
PutCame conn put.Failed after = IsFailureOf conn after

-- a fault of a connection
abbrev pub IsOfConn : LoopFault → Type 0
IsOfConn (NetFault (Some conn)) = Unit {0}
IsOfConn (NetFault None) = ⊥
IsOfConn Spent = ⊥

-- a fault names the connection of the failed call; no other fault comes
abbrev pub FaultCame : {T : Type 0} → Result T LoopFault → List Entry → Type 0
FaultCame (Ok x) after = Unit {0}
FaultCame (Err (NetFault (Some conn))) after = IsFailureOf conn after
FaultCame (Err (NetFault None)) after = ⊥
FaultCame (Err Spent) after = ⊥

-- the places that an answer names: those that a write of this loop found ended, and that no earlier answer named
abbrev pub is_to_name : History → List Entry → ℕ → Bool
is_to_name h journal p = h.begun p && (write_ended p journal && not (h.named p))

-- an answer names just those
abbrev pub NamesEnds : {E : Type 0} → Result (List Bool) E → History → List Entry → Type 0
-- each place has its answer
NamesEnds (Ok names) h after = (p : ℕ) → p < 64 → slice_get names p ≡ Some (is_to_name h after p)
NamesEnds (Err e) h after = Unit {0}

-- what an answer names, whatever was asked before
pub record Names {E : Type 0} (result : Result (List Bool) E) (old : Loop) (before after : List Entry) : Type 0 where
  pub so : (h : History) → StandsFor old h before → NamesEnds result h after
