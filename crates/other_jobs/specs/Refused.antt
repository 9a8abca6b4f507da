-- Connections that are refused, and what was got on them. A journal has its newest entry first.
use Rattle.std.specs.Prelude.{◌≡◌, ◌<◌, ℕ, List, [], Some}
use Rattle.world.specs.declared.entry.Entry.{Entry}
use Rattle.world.specs.Places.{status}

-- no byte was got on a connection that is refused since it was last begun
pub record RefusedUnread (past : List Entry) : Type 0 where
  pub each : (p at : ℕ) → p < 64 → (status p past).refused ≡ Some at → (status p past).got ≡ []
