-- The laws in the form that the public functions state.
use Rattle.std.proofs.Common.{ℕ, List, ◌⊎◌, inl, inr}
use Rattle.zmtp_wire.specs.declared.role.Role.{Role}
use Rattle.zmtp_wire.specs.Stream.{IsStream, IsBroken}
use Rattle.zmtp_wire.proofs.OutcomeLemmas.{reads, breaks, outcome, not_both}

pub either : (b : List ℕ) (r : Role) → IsStream b r ⊎ IsBroken b r
either b r = elim (outcome r b) [ reads ms owed rest s ↦ inl (ms, owed, rest, s) | breaks e at ms owed k ↦ inr (e, at, ms, owed, k) ]

pub never_both : (b : List ℕ) (r : Role) → IsStream b r → IsBroken b r → ⊥
never_both b r s k = not_both b r s.0 k.2 s.1 k.3 s.2 k.0 k.1 s.3 k.4
