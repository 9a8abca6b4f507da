-- The envelope of REQ and REP (RFC 28, "The REQ Socket Type" and "The REP Socket Type"): an empty frame before the body.
use Rattle.std.specs.Prelude.{ℕ, Bool, true, false, cond, nat_eq, List, [], ◌∷◌, ◌++◌, length, drop}
use Rattle.zmtp_wire.specs.declared.role.Role.{Role}
use Rattle.zmtp_wire.specs.declared.role.Role.TheVariants as role

-- whether the role puts an empty frame before the body
abbrev pub has_envelope : Role → Bool
has_envelope role.Dealer = false
has_envelope role.Sub = false
has_envelope role.Req = true
has_envelope role.Router = false
has_envelope role.Pub = false
has_envelope role.Rep = true

-- a body as the role sends it
abbrev pub with_envelope : Role → List (List ℕ) → List (List ℕ)
with_envelope r body = cond (has_envelope r) ([] ∷ body) body

-- whether the first frame is there and empty
abbrev pub starts_empty : List (List ℕ) → Bool
starts_empty [] = false
starts_empty (first ∷ body) = nat_eq (length first) 0

-- the body of a message that the role reads: none where an empty frame should stand first and doesn't
abbrev pub body_in : Role → List (List ℕ) → List (List (List ℕ))
body_in r m = cond (has_envelope r) (cond (starts_empty m) (drop 1 m ∷ []) []) (m ∷ [])

-- the bodies of messages that the role reads
abbrev pub bodies_of : Role → List (List (List ℕ)) → List (List (List ℕ))
bodies_of r [] = []
bodies_of r (m ∷ ms) = body_in r m ++ bodies_of r ms
