-- The greeting of ZMTP 3.0 and 3.1 (RFC 23 and RFC 37, "Overall Behavior"), 64 octets:
-- 0 FF, 9 7F, 10 the major version, 11 the minor one, 12 to 31 the mechanism, all others free.
use Rattle.std.specs.Prelude.{ℕ, ◌-◌, Bool, true, cond, ◌&&◌, ◌||◌, nat_lt, nat_le, nat_eq, List, [], ◌∷◌, length, slice_index, Option, None, Some}
use Rattle.zmtp_wire.specs.declared.cause.Cause.{Cause}
use Rattle.zmtp_wire.specs.declared.cause.Cause.TheVariants as cause

-- the name of the mechanism NULL, which zeros follow up to octet 31
abbrev pub mechanism : List ℕ
mechanism = 78 ∷ 85 ∷ 76 ∷ 76 ∷ []

-- whether the octet may stand at i
abbrev pub passes : ℕ → ℕ → Bool
passes i x =
    cond (nat_eq i 0) (nat_eq x 255)
    (cond (nat_eq i 9) (nat_eq x 127)
    (cond (nat_eq i 10) (nat_le 3 x)
    (cond (nat_le 12 i && nat_lt i 32) (nat_eq x (slice_index mechanism (i - 12))) true)))

-- what an octet at i that may not stand there breaks
abbrev pub greeting_cause : ℕ → Cause
greeting_cause i = cond (nat_lt i 10) cause.Signature (cond (nat_eq i 10) cause.Version cause.Mechanism)

-- whether the version is 3.1 or above
abbrev pub is_newer : ℕ → ℕ → Bool
is_newer major minor = nat_lt 3 major || (nat_eq major 3 && nat_le 1 minor)

-- whether the sender of a greeting speaks 3.1 or above
abbrev pub speaks : List ℕ → Bool
speaks g = is_newer (slice_index g 10) (slice_index g 11)

-- whether the sender of these octets speaks 3.1 or above, once the twelve octets that tell have come
abbrev pub newer_of : List ℕ → Option Bool
newer_of b = cond (nat_lt (length b) 12) None (Some (speaks b))
