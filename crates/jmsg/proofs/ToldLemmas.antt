-- Pairs of a header that are gone through from the last one on.
use Rattle.std.proofs.Common.{◌≡◌, ℕ, List, ◌++◌}
use Rattle.jtext.specs.declared.json.Json.{Json}
use Rattle.jmsg.specs.declared.told.Told.{Told}
use Rattle.jmsg.specs.Told.{IsTold}

-- the pairs that follow those that are left tell it
pub record Through (pairs left : List (List ℕ × Json)) (t : Told) : Type 0 where
  pub done : List (List ℕ × Json)
  pub parts : pairs ≡ left ++ done
  pub told : IsTold t done
