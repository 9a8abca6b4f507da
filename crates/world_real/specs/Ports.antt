-- The ports of a kernel (jupyter_client, "Connection files"): five on this machine, each its own.
use Rattle.std.specs.Prelude.{ℕ, ◌<◌, ◌≤◌, ◌+◌, List, All, Contains}
use Rattle.world.specs.Told.{AreDifferent}

-- ports that may be given where those before were given already
pub record AreFresh (before ports : List ℕ) : Type 0 where
  pub above : All (λ port. 0 < port) ports
  pub different : AreDifferent ports
  pub fresh : All (λ port. Contains before port → ⊥) ports

-- a port of the block of 96 that begins with that one, which only holds the block's lock
abbrev pub IsOfBlock : ℕ → ℕ → Type 0
IsOfBlock first port = (first < port) × (port < first + 96)

-- the ports lie in one block, below those that Linux gives out by itself (ip(7), ip_local_port_range)
pub record AreOfOneBlock (ports : List ℕ) : Type 0 where
  pub first : ℕ
  pub low : first + 96 ≤ 32768
  pub within : All (IsOfBlock first) ports
