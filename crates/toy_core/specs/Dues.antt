-- What stays due where memory is wanted: all that was due, before whatever has become due since.
use Rattle.std.specs.Prelude.{◌≡◌, ◌≤◌, ℕ, ℤ, cond, List, [], ◌++◌, Some}
use Rattle.std.specs.Io.{StartsWith}
use Rattle.world.specs.declared.chan.Chan.{Chan}
use Rattle.toy_core.specs.declared.agenda.Agenda.{Agenda}
use Rattle.toy_core.specs.declared.lane.Lane.{Lane}
use Rattle.toy_core.specs.declared.lanes.Lanes.{Lanes}
use Rattle.toy_core.specs.declared.machine.Machine.{Machine}
use Rattle.toy_core.specs.declared.toy.Toy.{Toy}
use Rattle.toy_core.specs.Acts.{acts_by}
use Rattle.toy_core.specs.Outboxes.{rest_due}
use Rattle.toy_core.specs.Standing.{end_by}
use Rattle.toy_core.specs.Toy.{lane, due_at}

-- these octets have become due on a connection, where it hears
pub record Sends (octets : List ℕ) (old new : Lane) : Type 0 where
  pub hears : new.hears ≡ old.hears
  pub left : (coming : List ℕ) → rest_due new.outbox coming ≡ rest_due old.outbox (cond old.hears octets [] ++ coming)

-- these octets have become due on each connection, where it hears
pub record SendsAll (octets : Chan → List ℕ) (old new : Lanes) : Type 0 where
  pub on : (c : Chan) → Sends (octets c) (lane c old) (lane c new)

-- what was due on each connection is due before all else, whatever comes
pub record Keeps (old new : Lanes) : Type 0 where
  pub left : (c : Chan) (coming : List ℕ) → StartsWith (rest_due (lane c new).outbox coming) (rest_due (lane c old).outbox [])

-- all that is due by a moment has happened
pub record IsSettled (now : ℕ) (a : Agenda) : Type 0 where
  pub nothing : acts_by now a.since a.acts ≡ []

-- just the same is due by a moment
pub record IsAsDue (now : ℕ) (old new : Machine) : Type 0 where
  pub due : (c : Chan) → due_at c now new ≡ due_at c now old
  pub end : end_by now new.kernel.agenda ≡ end_by now old.kernel.agenda

-- what was due at a moment is due then and later before all else, and what had ended stays ended
pub record StaysDue (now : ℕ) (old new : Machine) : Type 0 where
  pub due : (c : Chan) (t : ℕ) → now ≤ t → StartsWith (due_at c t new) (due_at c now old)
  pub ended : (t : ℕ) (status : ℤ) → now ≤ t → end_by now old.kernel.agenda ≡ Some status
      → end_by t new.kernel.agenda ≡ Some status

-- what was due of a `Toy` at a moment is due then and later before all else, and what had ended stays ended
abbrev pub KeepsDue : ℕ → Toy → Toy → Type 0
KeepsDue now old new = StaysDue now old.machine new.machine
