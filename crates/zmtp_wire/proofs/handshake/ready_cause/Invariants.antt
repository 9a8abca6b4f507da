use Rattle.std.proofs.Common.{◌≡◌, length}
use Rattle.zmtp_wire.specs.Machine.{ready_cause, properties}
use Rattle.zmtp_wire.proofs.ReadyLemmas.{verdict}
use Rattle.zmtp_wire.proofs.handshake.ready_cause.Given as goal

abbrev pub invariant-loop-rest : goal.invariant-loop-rest
invariant-loop-rest l = verdict l.role l.fits (properties l.rest) ≡ ready_cause l.role (properties l.octets)

abbrev pub decreases-loop-rest : goal.decreases-loop-rest
decreases-loop-rest l = length l.rest
