-- The calls of a kernel in memory, so that it can be said for which lists of them it stands.
use Rattle.std.specs.Prelude.{ℕ, List, ◌∷◌, take, Bool}
use Rattle.world.specs.declared.chan.Chan.{Chan}
use Rattle.world.specs.declared.give.Give.{Give}
use Rattle.world.specs.declared.give.Give.TheVariants as give
use Rattle.world.specs.Kernel.{Given, Hands, Waits, Over}

-- a call that may change a kernel, with its moment, what it was handed and what it answered
pub data Call : Type 0 where
  Ticked : ℕ → Call
  Accepted : Chan → ℕ → Bool → Call
  Took : Chan → ℕ → List ℕ → Call
  Gave : Chan → ℕ → ℕ → Given → Call

-- what was given, by the answer and the buffer after it
abbrev pub given_of : Give → List ℕ → Given
given_of (give.Bytes n) buffer = Hands (take n buffer)
given_of give.Nothing buffer = Waits
given_of give.Ended buffer = Over

-- it stands for a list of calls, the newest first, with this call after them, wherever it stood for them before
abbrev pub StandsAfter : (List Call → Type 0) → (List Call → Type 0) → Call → Type 0
StandsAfter before after call = (calls : List Call) → before calls → after (call ∷ calls)
