-- What a `Toy` answers by what it holds, and for which calls it stands.
use Rattle.std.specs.Prelude.{◌≡◌, ℕ, ℤ, Bool, false, cond, ◌||◌, not, List, [], Option, is_some}
use Rattle.world.specs.declared.chan.Chan.{Chan}
use Rattle.world.specs.declared.chan.Chan.TheVariants as chan
use Rattle.world.specs.declared.give.Give.{Give}
use Rattle.world.specs.declared.give.Give.TheVariants as give
use Rattle.world.specs.Calls.{Call}
use Rattle.world.specs.Kernel.{Given}
use Rattle.zmtp_peer.specs.Peer as peer
use Rattle.toy_core.specs.declared.agenda.Agenda.{Agenda}
use Rattle.toy_core.specs.declared.lane.Lane.{Lane}
use Rattle.toy_core.specs.declared.lanes.Lanes.{Lanes}
use Rattle.toy_core.specs.declared.machine.Machine.{Machine}
use Rattle.toy_core.specs.declared.toy.Toy.{Toy}
use Rattle.toy_core.specs.Acts.{acts_by, octets_on}
use Rattle.toy_core.specs.Outboxes.{rest_due, handing}
use Rattle.toy_core.specs.Sending.{role_on}
use Rattle.toy_core.specs.Standing.{Line, Lines, is_broken, hears, end_by, Standing, handed_on, standing}

-- the connection to a channel
abbrev pub lane : Chan → Lanes → Lane
lane chan.Shell ls = ls.shell
lane chan.Control ls = ls.control
lane chan.Iopub ls = ls.iopub
lane chan.Heart ls = ls.heart

-- the octets that become due on a channel by a moment, where they are sent
abbrev pub coming : Chan → ℕ → Agenda → Bool → List ℕ
coming c now a sends = cond sends (octets_on c (acts_by now a.since a.acts)) []

-- what is due on a connection by a moment and wasn't handed out
abbrev pub due_on : Chan → ℕ → Agenda → Lane → List ℕ
due_on c now a l = rest_due l.outbox (coming c now a l.hears)

-- nothing more will be due: the kernel has ended, or what came breaks the grammar
abbrev pub is_over : ℕ → Agenda → Lane → Bool
is_over now a l = is_some (end_by now a) || l.is_broken

-- what is due on a channel by a moment and wasn't handed out
abbrev pub due_at : Chan → ℕ → Machine → List ℕ
due_at c now m = due_on c now m.kernel.agenda (lane c m.lanes)

-- nothing more will be due on a channel
abbrev pub is_over_at : Chan → ℕ → Machine → Bool
is_over_at c now m = is_over now m.kernel.agenda (lane c m.lanes)

-- what is handed out on a channel at a moment into a buffer of that length
abbrev pub given_at : Chan → ℕ → ℕ → Machine → Given
given_at c now room m = handing room (due_at c now m) (is_over_at c now m)

-- what is handed out by an answer
abbrev pub gave : Chan → Give → Standing → Standing
gave c (give.Bytes n) s = handed_on c n s
gave c give.Nothing s = s
gave c give.Ended s = s

-- whether a connection is taken up at a moment
abbrev pub accepts_by : ℕ → Agenda → Bool
accepts_by now a = not (is_some (end_by now a))

-- what a `Toy` gives on a channel at a moment, with this much room
abbrev pub gives : Toy → Chan → ℕ → ℕ → Given
gives toy c now room = given_at c now room toy.machine

-- the status with which it has ended by a moment
abbrev pub exits : Toy → ℕ → Option ℤ
exits toy now = end_by now toy.machine.kernel.agenda

-- whether it takes up a connection at a moment
abbrev pub accepts : Toy → Chan → ℕ → Bool
accepts toy c now = accepts_by now toy.machine.kernel.agenda

-- the connection has heard this, and this is due on it
pub record IsLine (c : Chan) (lane : Lane) (l : Line) : Type 0 where
  pub role : peer.role_of lane.peer ≡ role_on c
  pub stands : peer.StandsFor lane.peer l.heard []
  pub outbox : lane.outbox ≡ l.outbox
  pub is_broken : lane.is_broken ≡ is_broken c l.heard
  pub hears : lane.hears ≡ hears c l.heard

-- the four connections have heard this, and this is due on them
pub record AreLines (lanes : Lanes) (ls : Lines) : Type 0 where
  pub shell : IsLine chan.Shell lanes.shell ls.shell
  pub control : IsLine chan.Control lanes.control ls.control
  pub iopub : IsLine chan.Iopub lanes.iopub ls.iopub
  pub heart : IsLine chan.Heart lanes.heart ls.heart

-- the machine stands at this
pub record Is (m : Machine) (s : Standing) : Type 0 where
  pub kernel : m.kernel ≡ s.kernel
  pub lines : AreLines m.lanes s.lines

-- for which lists of calls, the newest first, it stands: no memory was wanted in any of them
pub record StandsFor (toy : Toy) (calls : List Call) : Type 0 where
  pub unstarved : toy.starved ≡ false
  pub machine : Is toy.machine (standing toy.key calls)

-- memory was wanted for it
abbrev pub is_starved : Toy → Bool
is_starved toy = toy.starved

-- it is as it was, but for the latest moment: whatever was due or is to happen stays
pub record IsStill (old new : Toy) : Type 0 where
  pub gives : (c : Chan) (now room : ℕ) → gives new c now room ≡ gives old c now room
  pub accepts : (c : Chan) (now : ℕ) → accepts new c now ≡ accepts old c now
  pub exits : (now : ℕ) → exits new now ≡ exits old now
  pub starved : is_starved new ≡ is_starved old

-- the key under which it signs
abbrev pub key_of : Toy → List ℕ
key_of toy = toy.key

-- the latest moment that it was handed
abbrev pub latest_of : Toy → ℕ
latest_of toy = toy.latest
