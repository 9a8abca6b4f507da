-- On which port each connect is made. A journal has its newest entry first.
use Rattle.std.specs.Prelude.{◌≡◌, ℕ, List, [], ◌∷◌, map, Bool, true, false, Option, Some, None, slice_get}
use Rattle.std.proofs.Common.{◌≢◌}
use Rattle.world.specs.declared.chan.Chan.{Chan}
use Rattle.world.specs.declared.entry.Entry.{Entry}
use Rattle.world.specs.declared.entry.Entry.TheVariants as made
use Rattle.world.specs.Moments.{Since}
use Rattle.world.specs.Places.{place_of}
use Rattle.ready_loop.specs.declared.link.Link.{Link}
use Rattle.ready_loop.specs.declared.readiness.Loop.{Loop}
use Rattle.ready_loop.specs.Begins.{port_of}
use Rattle.ready_loop.specs.History.{conn_on}
use Rattle.ready_loop.specs.Link.{is_known}
use Rattle.world.specs.Told.{Between}
use Rattle.ready_loop.specs.States.{known_at}

-- a port, where there is one
abbrev pub port_where : Bool → ℕ → Option ℕ
port_where true port = Some port
port_where false port = None

-- the port of a connection, where a connect was called for it
abbrev pub port_kept : Link → Option ℕ
port_kept link = port_where (is_known link.stage) link.port

-- the port of each connection for which a connect was called, by places
abbrev pub ports_in : Loop → List (Option ℕ)
ports_in l = map port_kept l.links

-- where the newest entry is a connect, it is on the port that is kept for its connection; and no job's ports are asked for
abbrev pub OnPort : List (Option ℕ) → List Entry → Type 0
OnPort ports [] = ⊥
OnPort ports (made.Connected conn port how ∷ past) = slice_get ports (place_of conn) ≡ Some (Some port)
OnPort ports (made.Ports job given ∷ past) = ⊥
OnPort ports (_ ∷ past) = Unit {0}

-- a journal with such an entry
pub record IsWired (ports : List (Option ℕ)) (now : List Entry) : Type 0 where
  pub newest : OnPort ports now

-- each connect was made on the port that is kept for its connection
abbrev pub ConnectsOn : {W : Type 0} → (W → Option (List Entry)) → W → W → List (Option ℕ) → Type 0
ConnectsOn journal old new ports = Between journal old new (Since (IsWired ports))

-- a port is kept for one connection more, which had none
pub record AddsPort (place port : ℕ) (old new : List (Option ℕ)) : Type 0 where
  pub none : slice_get old place ≡ Some None
  pub here : slice_get new place ≡ Some (Some port)
  pub others : (p : ℕ) → p ≢ place → slice_get new p ≡ slice_get old p

-- for each connection of a job for which a connect was called the port of its channel is kept, of these
pub record HasPorts (job : ℕ) (ports : List ℕ) (l : Loop) : Type 0 where
  pub each : (chan : Chan) → known_at l (place_of (conn_on job chan)) ≡ true
      → slice_get (ports_in l) (place_of (conn_on job chan)) ≡ Some (Some (port_of ports chan))
