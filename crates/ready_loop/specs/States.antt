-- What is to be done before the next wait, by what a loop keeps.
use Rattle.std.specs.Prelude.{
  ◌≡◌,
  ◌<◌,
  ◌≤◌,
  ◌+◌,
  ◌-◌,
  ◌||◌,
  ℕ,
  List,
  [],
  Bool,
  true,
  false,
  Option,
  Some,
  None,
  Result,
  Ok,
  Err,
  slice_get,
  sum_by,
}
use Rattle.std.proofs.Common.{◌≢◌, length, IsSomeAnd}
use Rattle.world.specs.declared.conn.Conn.{Conn}
use Rattle.world.specs.declared.connected.Connected.{Connected}
use Rattle.world.specs.declared.connected.Connected.TheVariants as connected
use Rattle.world.specs.declared.put.Put.{Put}
use Rattle.world.specs.declared.put.Put.TheVariants as put
use Rattle.world.specs.Places.{is_at, place_of}
use Rattle.ready_loop.specs.declared.fault.LoopFault.{LoopFault}
use Rattle.ready_loop.specs.declared.fault.LoopFault.TheVariants.{NetFault, Spent}
use Rattle.ready_loop.specs.declared.link.Link.{Link}
use Rattle.ready_loop.specs.declared.readiness.Loop.{Loop}
use Rattle.ready_loop.specs.Link.{MayRead, MayWrite, named_link, is_found, is_known, is_begun}
use Rattle.ready_loop.specs.Queues.{held_in, rest_at}

-- the fact holds of each connection at a place below this one
abbrev pub EachBelow : ℕ → List Link → (ℕ → Link → Type 0) → Type 0
EachBelow n links P = (p : ℕ) (link : Link) → p < n → slice_get links p ≡ Some link → P p link

-- the fact holds of each connection
abbrev pub Each : List Link → (ℕ → Link → Type 0) → Type 0
Each links P = EachBelow 64 links P

-- a connection is not to be read any more
abbrev pub NotRead : ℕ → Link → Type 0
NotRead p link = MayRead link → ⊥

-- how many waits a loop may still make
abbrev pub waits_left : Loop → ℕ
waits_left l = l.left

-- how often a connection that is awake, and of which no call failed, may give bytes before the next wait
abbrev pub reads_where : Bool → Bool → ℕ → ℕ
reads_where true false reads = 64 - reads
reads_where true true reads = 0
reads_where false failed reads = 0

-- how often this connection may give bytes before the next wait, by what is kept of it
abbrev pub link_reads : Link → ℕ
link_reads link = reads_where link.awake link.failed link.reads

-- how many reads may come before the next wait, at most
abbrev pub reads_left : Loop → ℕ
reads_left l = sum_by link_reads l.links

-- no connection is to be read any more
pub record IsDrained (l : Loop) : Type 0 where
  pub each : Each l.links NotRead

-- nothing is queued on a connection that takes bytes
pub record IsOffered (l : Loop) : Type 0 where
  pub each : Each l.links (λ p link. MayWrite link → rest_at l.queues p ≡ [])

-- no connection is up of which a call has failed
pub record IsSound (l : Loop) : Type 0 where
  pub each : Each l.links (λ p link. link.failed ≡ false)

-- a loop that may wait: `next` has answered `Quiet`, `offer` was done and nothing was queued since,
-- and the jobs of connections that a fault named were closed
pub record MayWait (l : Loop) : Type 0 where
  pub drained : IsDrained l
  pub offered : IsOffered l
  pub sound : IsSound l

-- whether a connect was called for a connection, where something is kept of it
abbrev pub known_in : Option Link → Bool
known_in None = false
known_in (Some link) = is_known link.stage

-- whether a connect was called for the connection at a place
abbrev pub known_at : Loop → ℕ → Bool
known_at l p = known_in (slice_get l.links p)

-- whether a connect was called for it that no close has followed, where something is kept of it
abbrev pub begun_in : Option Link → Bool
begun_in None = false
begun_in (Some link) = is_begun link.stage

-- whether the connection at a place was begun, and not closed since
abbrev pub begun_at : Loop → ℕ → Bool
begun_at l p = begun_in (slice_get l.links p)

-- bytes are held only for connections for which a connect was called
pub record HoldsForKnown (l : Loop) : Type 0 where
  pub each : (p : ℕ) → known_at l p ≡ false → rest_at l.queues p ≡ []

-- a call begins no connection for the first time, closes none, and queues nothing on one that was not begun
pub record SameKnown (old new : Loop) : Type 0 where
  pub each : (p : ℕ) → known_at new p ≡ known_at old p
  pub begun : (p : ℕ) → begun_at new p ≡ begun_at old p
  pub holds : HoldsForKnown old → HoldsForKnown new

-- whether the connection at a place is awake
abbrev pub awake_in : Option Link → Bool
awake_in None = false
awake_in (Some link) = link.awake

-- the clock before the connection at a place was refused, while it is
abbrev pub refused_in : Option Link → Option ℕ
refused_in None = None
refused_in (Some link) = link.refused

-- no refused connection is due to be begun again at this moment
pub record IsCalm (last : ℕ) (l : Loop) : Type 0 where
  pub each : Each l.links (λ p link. (at : ℕ) → link.refused ≡ Some at → last < at + 200)

-- whether a call of a connection has failed, where something is kept of it
abbrev pub failed_in : Option Link → Bool
failed_in None = false
failed_in (Some link) = link.failed

-- whether a call of the connection at a place has failed, and it was not closed since
abbrev pub failed_at : Loop → ℕ → Bool
failed_at l p = failed_in (slice_get l.links p)

-- a connection of one of the 16 jobs that was begun and not closed since, and of which no call has failed
pub record IsWell (l : Loop) (conn : Conn) : Type 0 where
  pub job : conn.job < 16
  pub begun : begun_at l (place_of conn) ≡ true
  pub sound : failed_at l (place_of conn) ≡ false

-- whether a connection has failed after an answer, by whether it had before
abbrev pub failed_after : {T : Type 0} → Result T LoopFault → ℕ → Bool → Bool
failed_after (Err (NetFault (Some conn))) p was = is_at p conn || was
failed_after (Err (NetFault None)) p was = was
failed_after (Err Spent) p was = was
failed_after (Ok x) p was = was

-- an answer leaves no other connection failed than those that were, and the one that it names
pub record FailsOnly {T : Type 0} (result : Result T LoopFault) (old new : Loop) : Type 0 where
  pub each : (p : ℕ) → failed_at new p ≡ failed_after result p (failed_at old p)

-- a connect leaves no other connection failed than those that were, and the one that it names
abbrev pub failed_connect : Connected → Conn → ℕ → Bool → Bool
failed_connect connected.Begun conn p was = was
failed_connect connected.Refused conn p was = was
failed_connect connected.Failed conn p was = is_at p conn || was

-- a write leaves no other connection failed than those that were, and the one that it names
abbrev pub failed_put : Put → Conn → ℕ → Bool → Bool
failed_put (put.Took n) conn p was = was
failed_put put.Stuck conn p was = was
failed_put put.Ended conn p was = was
failed_put put.Refused conn p was = was
failed_put put.Failed conn p was = is_at p conn || was

-- the connection at a place is not due to be begun again
pub record IsCalmAt (place last : ℕ) (l : Loop) : Type 0 where
  pub at : (link : Link) → slice_get l.links place ≡ Some link → (at : ℕ) → link.refused ≡ Some at
      → last < at + 200

-- nothing is to be done at a place before a wait
pub record IsOfferedAt (place last : ℕ) (l : Loop) : Type 0 where
  pub calm : IsCalmAt place last l
  pub sent : (link : Link) → slice_get l.links place ≡ Some link → MayWrite link → rest_at l.queues place ≡ []

-- nothing is to be done before a wait at any place below this one
pub record AllOfferedBelow (n last : ℕ) (l : Loop) : Type 0 where
  pub each : (p : ℕ) → p < n → IsOfferedAt p last l

-- only what is kept of this place may have changed
pub record OnlyAt (place : ℕ) (old new : Loop) : Type 0 where
  pub links : (p : ℕ) → p ≢ place → slice_get new.links p ≡ slice_get old.links p
  pub held : (p : ℕ) → p ≢ place → held_in (slice_get new.queues p) ≡ held_in (slice_get old.queues p)
  pub left : new.left ≡ old.left

-- a condition as a number
abbrev pub flag : Bool → ℕ
flag true = 1
flag false = 0

-- whether a connection was begun, and not closed since, as a number
abbrev pub link_open : Link → ℕ
link_open link = flag (is_begun link.stage)

-- how many connections were begun, and not closed since
abbrev pub open_left : Loop → ℕ
open_left l = sum_by link_open l.links

-- whether a connection takes bytes, as a number
abbrev pub writable_in : Option Link → ℕ
writable_in None = 0
writable_in (Some link) = flag link.writable

-- what falls with each write at a place: the bytes held, and whether it takes any
abbrev pub load : ℕ → Loop → ℕ
load place l = length (rest_at l.queues place) + writable_in (slice_get l.links place)

-- whether a write found a connection ended that no answer has named, where something is kept of it
abbrev pub found_in : Option Link → Bool
found_in None = false
found_in (Some link) = is_found link.end

-- a write found the connection at a place ended, and no answer has named it
abbrev pub found_at : Loop → ℕ → Bool
found_at l p = found_in (slice_get l.links p)

-- a link after a step through the table that has come to this place
pub record MapsTo (n : ℕ) (f : ℕ → Link → Link) (p : ℕ) (link was : Link) : Type 0 where
  pub below : p < n → link ≡ f p was
  pub above : n ≤ p → link ≡ was

-- at each place below this one the link was changed so, and no other
pub record MapsBelow (n : ℕ) (f : ℕ → Link → Link) (old new : List Link) : Type 0 where
  pub size : length new ≡ length old
  pub each : (p : ℕ) (link : Link) → slice_get new p ≡ Some link
      → IsSomeAnd (slice_get old p) (MapsTo n f p link)

-- each end that was found is named
abbrev pub NamesAll : List Link → List Link → Type 0
NamesAll old new = MapsBelow 64 (λ p. named_link) old new
