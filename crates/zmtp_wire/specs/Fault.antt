-- Why a stream of ZMTP 3.0 (RFC 23) is broken, and where.
use Rattle.std.specs.Prelude.{ℕ, ◌-◌, ◌^◌, min}
use Rattle.zmtp_wire.specs.declared.cause.Cause.{Cause}
use Rattle.zmtp_wire.specs.declared.cause.Cause.TheVariants as cause
use Rattle.zmtp_wire.specs.declared.fault.WireFault.{WireFault}
use Rattle.zmtp_wire.specs.declared.fault.WireFault.TheVariants as fault

-- a place as a u64, which stands still at the last one
abbrev pub clip : ℕ → ℕ
clip n = min n (2 ^ 64 - 1)

-- the fault with this cause at this place
abbrev pub fault_at : ℕ → Cause → WireFault
fault_at at cause.Signature = fault.Signature at
fault_at at cause.Version = fault.Version at
fault_at at cause.Mechanism = fault.Mechanism at
fault_at at cause.Flags = fault.Flags at
fault_at at (cause.TooLong size) = fault.TooLong at size
fault_at at cause.TooMany = fault.TooMany at
fault_at at cause.Command = fault.Command at
fault_at at cause.PeerError = fault.PeerError at
fault_at at cause.WrongPeer = fault.WrongPeer at

-- the number of the cause
abbrev pub number_of : WireFault → ℕ
number_of (fault.Signature at) = 1
number_of (fault.Version at) = 2
number_of (fault.Mechanism at) = 3
number_of (fault.Flags at) = 4
number_of (fault.TooLong at size) = 5
number_of (fault.TooMany at) = 6
number_of (fault.Command at) = 7
number_of (fault.PeerError at) = 8
number_of (fault.WrongPeer at) = 9
number_of fault.NoMemory = 12

-- where the fault stands, 0 for want of memory
abbrev pub place_of : WireFault → ℕ
place_of (fault.Signature at) = at
place_of (fault.Version at) = at
place_of (fault.Mechanism at) = at
place_of (fault.Flags at) = at
place_of (fault.TooLong at size) = at
place_of (fault.TooMany at) = at
place_of (fault.Command at) = at
place_of (fault.PeerError at) = at
place_of (fault.WrongPeer at) = at
place_of fault.NoMemory = 0
