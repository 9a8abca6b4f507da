-- How each of the 64 connections stands, by the journal, its newest entry first.
-- Connection `c` of job `j` has the place 4 * j + c.
use Rattle.std.specs.Prelude.{
  ◌≡◌,
  ◌==◌,
  ◌||◌,
  ℕ,
  ◌+◌,
  ◌*◌,
  List,
  [],
  ◌∷◌,
  ◌++◌,
  Bool,
  true,
  false,
  Option,
  Some,
  None,
  if◌then◌else◌,
  slice_get,
  unwrap_or,
}
use Rattle.world.specs.declared.chan.Chan.{Chan}
use Rattle.world.specs.declared.chan.Chan.TheVariants.{Shell, Control, Iopub, Heart}
use Rattle.world.specs.declared.conn.Conn.{Conn}
use Rattle.world.specs.declared.connected.Connected.{Connected}
use Rattle.world.specs.declared.connected.Connected.TheVariants as connected
use Rattle.world.specs.declared.side.Side.TheVariants as side
use Rattle.world.specs.declared.did.Did.{Did}
use Rattle.world.specs.declared.did.Did.TheVariants as did
use Rattle.world.specs.declared.entry.Entry.{Entry}
use Rattle.world.specs.declared.entry.Entry.TheVariants as made

-- the number of a channel, in the order of `Chan`
abbrev pub chan_number : Chan → ℕ
chan_number Shell = 0
chan_number Control = 1
chan_number Iopub = 2
chan_number Heart = 3

-- the place of a connection among the 64
abbrev pub place_of : Conn → ℕ
place_of conn = 4 * conn.job + chan_number conn.chan

-- a connection is the one at a place
abbrev pub is_at : ℕ → Conn → Bool
is_at p conn = p == place_of conn

-- how the connection at a place stands
pub record Status : Type 0 where
  pub begun : Bool  -- a connect was tried, whatever it answered, and it was not closed since
  pub port : Option ℕ  -- the port of the last connect
  pub awake : Bool  -- it was reported, and not read to its end since
  pub writable : Bool  -- it was begun or reported, and has not been stuck or ended since
  pub up : Bool  -- it was begun, and has since neither ended, been refused nor been closed
  pub failed : Bool  -- a call of it has failed, and it was not closed since
  pub refused : Option ℕ  -- the clock before it was refused, while it is
  pub count : ℕ  -- how often it gave bytes since the last wait
  pub put : List ℕ  -- the bytes that were put on it since it was last begun
  pub got : List ℕ  -- those that were got

-- a connection that was never begun
abbrev pub idle_status : Status
idle_status = record {
  begun = false;
  port = None;
  awake = false;
  writable = false;
  up = false;
  failed = false;
  refused = None;
  count = 0;
  put = [];
  got = [];
}

-- a connection for which a connect to this port was tried
abbrev pub begun_status : ℕ → Status → Status
begun_status number s = record s { begun = true; port = Some number; refused = None; put = []; got = [] }

-- after a connect to a port at a moment
abbrev pub connected_after : Connected → ℕ → ℕ → Status → Status
connected_after connected.Begun number clock s = record (begun_status number s) { writable = true; up = true }
connected_after connected.Refused number clock s = record (begun_status number s) { up = false; refused = Some clock }
connected_after connected.Failed number clock s = record (begun_status number s) { failed = true }

-- after a close
abbrev pub closed_after : Status → Status
closed_after s =
    record s { begun = false; awake = false; writable = false; up = false; failed = false; refused = None }

-- after bytes were got
abbrev pub got_after : List ℕ → Status → Status
got_after bytes s = record s { count = s.count + 1; got = s.got ++ bytes }

-- after the other side has ended it
abbrev pub ended_after : Status → Status
ended_after s = record s { awake = false; writable = false; up = false }

-- after it was turned away at a moment
abbrev pub refused_after : ℕ → Status → Status
refused_after clock s = record s { awake = false; writable = false; up = false; refused = Some clock }

-- a wait reports this place
abbrev pub is_reported : ℕ → List Bool → Bool
is_reported p ready = unwrap_or (slice_get ready p) false

-- after a wait that reported these places
abbrev pub waited_after : ℕ → List Bool → Did → Status → Status
waited_after p ready did.Done s =
    record s { awake = is_reported p ready || s.awake; writable = is_reported p ready || s.writable; count = 0 }
waited_after p ready did.Failed s = record s { count = 0 }

-- how it stands after an entry, before which the clock's last moment was this
abbrev pub status_after : ℕ → ℕ → Entry → Status → Status
status_after p clock (made.Connected conn number how) s = if is_at p conn then connected_after how number clock s else s
status_after p clock (made.Closed conn) s = if is_at p conn then closed_after s else s
status_after p clock (made.Got conn room bytes) s = if is_at p conn then got_after bytes s else s
status_after p clock (made.Dry conn) s = if is_at p conn then record s { awake = false } else s
status_after p clock (made.Ended conn by) s = if is_at p conn then ended_after s else s
status_after p clock (made.Refused conn by) s = if is_at p conn then refused_after clock s else s
status_after p clock (made.ReadFailed conn) s = if is_at p conn then record s { awake = false; failed = true } else s
status_after p clock (made.Put conn bytes) s = if is_at p conn then record s { put = s.put ++ bytes } else s
status_after p clock (made.Stuck conn) s = if is_at p conn then record s { writable = false } else s
status_after p clock (made.PutFailed conn) s = if is_at p conn then record s { writable = false; failed = true } else s
status_after p clock (made.Waited ms places did) s = waited_after p places.ready did s
status_after p clock _ s = s

-- the last moment after an entry
abbrev pub time_after : Entry → ℕ → ℕ
time_after (made.Moment ms) was = ms
time_after _ was = was

-- the last moment that the clock gave, or 0
abbrev pub time : List Entry → ℕ
time [] = 0
time (entry ∷ past) = time_after entry (time past)

-- how the connection at a place stands after these entries
abbrev pub status : ℕ → List Entry → Status
status p [] = idle_status
status p (entry ∷ past) = status_after p (time past) entry (status p past)

-- the entry is made by a read of this place
abbrev pub is_read : ℕ → Entry → Bool
is_read p (made.Got conn room bytes) = is_at p conn
is_read p (made.Dry conn) = is_at p conn
is_read p (made.Ended conn side.Read) = is_at p conn
is_read p (made.Refused conn side.Read) = is_at p conn
is_read p (made.ReadFailed conn) = is_at p conn
is_read p _ = false

-- the entry is made by a write to this place
abbrev pub is_write : ℕ → Entry → Bool
is_write p (made.Put conn bytes) = is_at p conn
is_write p (made.Stuck conn) = is_at p conn
is_write p (made.Ended conn side.Write) = is_at p conn
is_write p (made.Refused conn side.Write) = is_at p conn
is_write p (made.PutFailed conn) = is_at p conn
is_write p _ = false

-- the entry may change how the connection at this place stands
abbrev pub concerns : ℕ → Entry → Bool
concerns p (made.Connected conn number how) = is_at p conn
concerns p (made.Closed conn) = is_at p conn
concerns p (made.Got conn room bytes) = is_at p conn
concerns p (made.Dry conn) = is_at p conn
concerns p (made.Ended conn by) = is_at p conn
concerns p (made.Refused conn by) = is_at p conn
concerns p (made.ReadFailed conn) = is_at p conn
concerns p (made.Put conn bytes) = is_at p conn
concerns p (made.Stuck conn) = is_at p conn
concerns p (made.PutFailed conn) = is_at p conn
concerns p (made.Waited ms reports did) = true
concerns p _ = false

-- no byte has passed on it since it was last begun
abbrev pub IsUnused : ℕ → List Entry → Type 0
IsUnused p past = ((status p past).put ≡ []) × ((status p past).got ≡ [])

-- only connections that are up are reported
abbrev pub OnlyUp : List Bool → List Entry → Type 0
OnlyUp ready past = (p : ℕ) → is_reported p ready ≡ true → (status p past).up ≡ true
