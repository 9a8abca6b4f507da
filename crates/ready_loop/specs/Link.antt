-- What a call of the world makes of what the loop keeps of its connection.
use Rattle.std.specs.Prelude.{◌≡◌, ◌⊎◌, ◌<◌, ◌≤◌, ◌+◌, ◌||◌, ◌&&◌, not, ℕ, Bool, true, false, Option, Some, None, is_some}
use Rattle.world.specs.declared.got.Got.{Got}
use Rattle.world.specs.declared.got.Got.TheVariants as got
use Rattle.world.specs.declared.put.Put.{Put}
use Rattle.world.specs.declared.put.Put.TheVariants as put
use Rattle.world.specs.declared.did.Did.{Did}
use Rattle.world.specs.declared.did.Did.TheVariants as did
use Rattle.world.specs.declared.connected.Connected.{Connected}
use Rattle.world.specs.declared.connected.Connected.TheVariants as connected
use Rattle.ready_loop.specs.declared.end.End.{End}
use Rattle.ready_loop.specs.declared.end.End.TheVariants.{No, Found, Named}
use Rattle.ready_loop.specs.declared.stage.Stage.{Stage}
use Rattle.ready_loop.specs.declared.stage.Stage.TheVariants.{Fresh, Begun, Closed}
use Rattle.ready_loop.specs.declared.link.Link.{Link}

-- a connect was called for it
abbrev pub is_known : Stage → Bool
is_known Fresh = false
is_known Begun = true
is_known Closed = true

-- a connect was called for the connection, and no close has followed
abbrev pub is_begun : Stage → Bool
is_begun Fresh = false
is_begun Begun = true
is_begun Closed = false

-- a connection for which no connect was called
abbrev pub fresh_link : Link
fresh_link = record {
  port = 0;
  stage = Fresh;
  awake = false;
  writable = false;
  failed = false;
  refused = None;
  reads = 0;
  end = No;
}

-- it is read before the next wait: it is awake, no call of it failed, and it gave bytes less than 64 times
pub record MayRead (link : Link) : Type 0 where
  pub awake : link.awake ≡ true
  pub sound : link.failed ≡ false
  pub reads : link.reads < 64

-- bytes may be offered to it
pub record MayWrite (link : Link) : Type 0 where
  pub writable : link.writable ≡ true
  pub sound : link.failed ≡ false

-- it was refused, and is to be begun again, 200 ms after the clock before its refusal or at once
pub record IsToBegin (forced : Bool) (last : ℕ) (link : Link) : Type 0 where
  pub at : ℕ
  pub refused : link.refused ≡ Some at
  pub due : (forced ≡ true) ⊎ (at + 200 ≤ last)

-- before its first connect, to this port
abbrev pub begun_link : ℕ → Link → Link
begun_link number link = record link { port = number; stage = Begun }

-- after a connect, by the last moment
abbrev pub connect_link : Connected → ℕ → Link → Link
connect_link connected.Begun last link = record link { writable = true; refused = None }
connect_link connected.Refused last link = record link { refused = Some last }
connect_link connected.Failed last link = record link { failed = true; refused = None }

-- the clock before a refusal, where another connect is to follow: the connection was begun, and not closed since
abbrev pub refused_clock : Stage → ℕ → Option ℕ
refused_clock Fresh last = None
refused_clock Begun last = Some last
refused_clock Closed last = None

-- it is awake, takes bytes, or a call of it has failed
abbrev pub is_used : Link → Bool
is_used link = link.awake || (link.writable || link.failed)

-- only one that was begun, and not closed since, is used or to be begun again, and none is both
pub record IsSteady (link : Link) : Type 0 where
  pub used : is_used link ≡ true → is_begun link.stage ≡ true
  pub begun : (at : ℕ) → link.refused ≡ Some at → is_begun link.stage ≡ true
  pub calm : (at : ℕ) → link.refused ≡ Some at → is_used link ≡ false

-- after a read, by the last moment
abbrev pub read_link : Got → ℕ → Link → Link
read_link (got.Piece n) last link = record link { reads = link.reads + 1 }
read_link got.Dry last link = record link { awake = false }
read_link got.Ended last link = record link { awake = false; writable = false; end = Named }
read_link got.Refused last link = record link { awake = false; writable = false; refused = refused_clock link.stage last }
read_link got.Failed last link = record link { awake = false; failed = true }

-- a write found it ended, and no answer has named it
abbrev pub is_found : End → Bool
is_found No = false
is_found Found = true
is_found Named = false

-- an answer has named it
abbrev pub is_named : End → Bool
is_named No = false
is_named Found = false
is_named Named = true

-- an end that a write found
abbrev pub found_end : End → End
found_end No = Found
found_end Found = Found
found_end Named = Named

-- after a write, by the last moment
abbrev pub write_link : Put → ℕ → Link → Link
write_link (put.Took n) last link = link
write_link put.Stuck last link = record link { writable = false }
write_link put.Ended last link = record link { awake = false; writable = false; end = found_end link.end }
write_link put.Refused last link = record link { awake = false; writable = false; refused = refused_clock link.stage last }
write_link put.Failed last link = record link { writable = false; failed = true }

-- a report counts for it: it was begun, not closed since, and is not to be begun again
abbrev pub may_wake : Link → Bool
may_wake link = is_begun link.stage && not (is_some link.refused)

-- after a wait, which reported it or did not
abbrev pub wait_link : Did → Bool → Link → Link
wait_link did.Done ready link =
    record link { awake = ready && may_wake link || link.awake; writable = ready && may_wake link || link.writable; reads = 0 }
wait_link did.Failed ready link = record link { reads = 0 }

-- a stage after a close
abbrev pub closed_stage : Stage → Stage
closed_stage Fresh = Fresh
closed_stage Begun = Closed
closed_stage Closed = Closed

-- after a close
abbrev pub closed_link : Link → Link
closed_link link = record link {
  stage = closed_stage link.stage;
  awake = false;
  writable = false;
  failed = false;
  refused = None;
}

-- an end that an answer has named where a write found it
abbrev pub named_end : End → End
named_end No = No
named_end Found = Named
named_end Named = Named

-- after an answer that names it where a write found it ended
abbrev pub named_link : Link → Link
named_link link = record link { end = named_end link.end }
