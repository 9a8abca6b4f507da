-- What stands in front of octets, after what has come (RFC 23 and RFC 37, "Formal Grammar").
use Rattle.std.specs.Prelude.{◌≡◌, ℕ, ◌+◌, Bool, cond, ◌&&◌, nat_le, nat_eq, List, [], ◌∷◌, ◌++◌, length}
use Rattle.std.specs.List.{starts_with}
use Rattle.zmtp_wire.specs.declared.role.Role.{Role}
use Rattle.zmtp_wire.specs.declared.cause.Cause.{Cause}
use Rattle.zmtp_wire.specs.declared.fault.WireFault.{WireFault}
use Rattle.zmtp_wire.specs.Fault.{clip, fault_at}
use Rattle.zmtp_wire.specs.Command.{error_name}
use Rattle.zmtp_wire.specs.Frame.{MOST, is_command}
use Rattle.zmtp_wire.specs.Stream.{Come, Completes, Wrong, Passes, IsPart, room_after}

-- b begins with octets that complete what comes next and at which no test fails, and `after` follows them
pub record Takes (role : Role) (come next : Come) (b after : List ℕ) : Type 0 where
  pub front : List ℕ
  pub spelled : b ≡ front ++ after
  pub completes : Completes come front next
  pub passes : Passes role come front

-- b begins with a part of what comes next and an octet at which a test fails, with this fault where b stands at `at`
pub record Fails (role : Role) (come : Come) (at : ℕ) (b : List ℕ) (e : WireFault) : Type 0 where
  pub part : List ℕ
  pub octet : ℕ
  pub after : List ℕ
  pub broken : Cause
  pub spelled : b ≡ part ++ octet ∷ after
  pub is_part : IsPart role come part
  pub wrong : Wrong role come (part ++ octet ∷ []) broken
  pub fault : e ≡ fault_at (clip (at + length part)) broken

-- whether the octets after a size begin the body of an ERROR
abbrev pub begins_error : ℕ → ℕ → List ℕ → Bool
begins_error f size rest = is_command f && nat_le 6 size && starts_with nat_eq rest error_name

-- how many octets a unit with this flag may have beside the frames that stand open
abbrev pub room_beside : List (List ℕ) → ℕ → ℕ
room_beside frames f = cond (is_command f) MOST (room_after frames)
