-- What a kernel in memory hands out, as the trait of the far end says it.
use Rattle.std.specs.Prelude.{◌≡◌, ℕ, ◌≤◌, List, length, take, Bool, true, false}
use Rattle.world.specs.declared.give.Give.{Give}
use Rattle.world.specs.declared.give.Give.TheVariants as give

-- what stands ready on a channel for a buffer of some length
pub data Given : Type 0 where
  Hands : List ℕ → Given
  Waits : Given
  Over : Given

-- the answer and the buffer after it are what stood ready
abbrev pub Gives : Given → Give → List ℕ → Type 0
Gives (Hands bytes) (give.Bytes n) buffer = (1 ≤ n) × (n ≤ length buffer) × (take n buffer ≡ bytes)
Gives (Hands bytes) give.Nothing buffer = ⊥
Gives (Hands bytes) give.Ended buffer = ⊥
Gives Waits (give.Bytes n) buffer = ⊥
Gives Waits give.Nothing buffer = Unit {0}
Gives Waits give.Ended buffer = ⊥
Gives Over (give.Bytes n) buffer = ⊥
Gives Over give.Nothing buffer = ⊥
Gives Over give.Ended buffer = Unit {0}

-- there is something to read, bytes or the end
abbrev pub is_something : Given → Bool
is_something (Hands bytes) = true
is_something Waits = false
is_something Over = true
