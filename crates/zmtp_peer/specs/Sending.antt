-- What one side sends and the other reads.
use Rattle.std.specs.Prelude.{ℕ, ◌≤◌, ◌<◌, List, [], ◌∷◌, length, sum_by}
use Rattle.zmtp_wire.specs.declared.role.Role.{Role}
use Rattle.zmtp_wire.specs.Frame.{MOST}
use Rattle.zmtp_peer.specs.Envelope.{with_envelope}

-- a body that may be sent
pub record IsBody (parts : List (List ℕ)) : Type 0 where
  pub some : 0 < length parts
  pub few : length parts ≤ 63
  pub small : sum_by length parts ≤ MOST

-- bodies that may be sent
abbrev pub AreBodies : List (List (List ℕ)) → Type 0
AreBodies [] = Unit {0}
AreBodies (m ∷ ms) = IsBody m × AreBodies ms

-- the bodies as the role sends them
abbrev pub all_enveloped : Role → List (List (List ℕ)) → List (List (List ℕ))
all_enveloped r [] = []
all_enveloped r (m ∷ ms) = with_envelope r m ∷ all_enveloped r ms
