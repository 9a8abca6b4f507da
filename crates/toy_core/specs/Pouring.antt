-- How far a buffer is filled from octets of which the first ones are passed over.
use Rattle.std.specs.Prelude.{◌≡◌, ◌≤◌, ◌-◌, ℕ, List, length, take, drop}
use Rattle.toy_core.specs.declared.pouring.Pouring.{Pouring}

-- of all these octets the given ones are passed over, and the others stand in the buffer as far as they fit
pub record Poured (given : ℕ) (all : List ℕ) (p : Pouring) (buffer : List ℕ) : Type 0 where
  pub skip : p.skip ≡ given - length all
  pub within : p.filled ≤ length buffer
  pub filled : take p.filled buffer ≡ take (length buffer) (drop given all)
