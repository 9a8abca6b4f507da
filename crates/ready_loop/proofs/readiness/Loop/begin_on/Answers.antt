use Rattle.std.proofs.Common.{refl}
use Rattle.std.proofs.lemmas.Bool.{false≢true}
use Rattle.world.specs.declared.connected.Connected.TheVariants as connected
use Rattle.world.proofs.MomentsLemmas.{tells_as}
use Rattle.ready_loop.proofs.FaultLemmas.{cause_as}
use Rattle.ready_loop.proofs.readiness.Loop.begin_on.Goals as goal

pub returns-in-Begun-clause-came : goal.returns-in-Begun-clause-came
returns-in-Begun-clause-came g c = tells_as c.in-Begun.ensures.tells (λ past. (connected.Begun, (λ e. cc), refl))

pub returns-in-Begun-clause-fault : goal.returns-in-Begun-clause-fault
returns-in-Begun-clause-fault g c = tt

pub returns-in-Begun-clause-goes : goal.returns-in-Begun-clause-goes
returns-in-Begun-clause-goes g c = c.in-Begun.ensures.goes

pub returns-in-Begun-clause-only : goal.returns-in-Begun-clause-only
returns-in-Begun-clause-only g c = c.in-Begun.ensures.only

pub returns-in-Begun-clause-drained : goal.returns-in-Begun-clause-drained
returns-in-Begun-clause-drained g c = c.in-Begun.ensures.drained

pub returns-in-Begun-clause-holds : goal.returns-in-Begun-clause-holds
returns-in-Begun-clause-holds g c = c.in-Begun.ensures.holds

pub returns-in-Begun-clause-offered : goal.returns-in-Begun-clause-offered
returns-in-Begun-clause-offered g c = c.in-Begun.ensures.offered

pub returns-in-Begun-clause-failed : goal.returns-in-Begun-clause-failed
returns-in-Begun-clause-failed g c = record { each = c.in-Begun.ensures.failed }

pub returns-in-Begun-clause-known : goal.returns-in-Begun-clause-known
returns-in-Begun-clause-known g c = c.in-Begun.ensures.known

pub returns-in-Begun-clause-same : goal.returns-in-Begun-clause-same
returns-in-Begun-clause-same g c = c.in-Begun.ensures.same

pub returns-in-Begun-clause-wires : goal.returns-in-Begun-clause-wires
returns-in-Begun-clause-wires g c = c.in-Begun.ensures.wires

pub returns-in-Begun-clause-ports : goal.returns-in-Begun-clause-ports
returns-in-Begun-clause-ports g c = c.in-Begun.ensures.ports

pub returns-in-Begun-clause-calls : goal.returns-in-Begun-clause-calls
returns-in-Begun-clause-calls g c = c.in-Begun.ensures.calls

pub returns-in-Begun-clause-cause : goal.returns-in-Begun-clause-cause
returns-in-Begun-clause-cause g c = cause_as (λ e. absurd (false≢true e)) c.in-Begun.ensures.cause

pub returns-in-Refused-clause-came : goal.returns-in-Refused-clause-came
returns-in-Refused-clause-came g c = tells_as c.in-Refused.ensures.tells (λ past. (connected.Refused, (λ e. cc), refl))

pub returns-in-Refused-clause-fault : goal.returns-in-Refused-clause-fault
returns-in-Refused-clause-fault g c = tt

pub returns-in-Refused-clause-goes : goal.returns-in-Refused-clause-goes
returns-in-Refused-clause-goes g c = c.in-Refused.ensures.goes

pub returns-in-Refused-clause-only : goal.returns-in-Refused-clause-only
returns-in-Refused-clause-only g c = c.in-Refused.ensures.only

pub returns-in-Refused-clause-drained : goal.returns-in-Refused-clause-drained
returns-in-Refused-clause-drained g c = c.in-Refused.ensures.drained

pub returns-in-Refused-clause-holds : goal.returns-in-Refused-clause-holds
returns-in-Refused-clause-holds g c = c.in-Refused.ensures.holds

pub returns-in-Refused-clause-offered : goal.returns-in-Refused-clause-offered
returns-in-Refused-clause-offered g c = c.in-Refused.ensures.offered

pub returns-in-Refused-clause-failed : goal.returns-in-Refused-clause-failed
returns-in-Refused-clause-failed g c = record { each = c.in-Refused.ensures.failed }

pub returns-in-Refused-clause-known : goal.returns-in-Refused-clause-known
returns-in-Refused-clause-known g c = c.in-Refused.ensures.known

pub returns-in-Refused-clause-same : goal.returns-in-Refused-clause-same
returns-in-Refused-clause-same g c = c.in-Refused.ensures.same

pub returns-in-Refused-clause-wires : goal.returns-in-Refused-clause-wires
returns-in-Refused-clause-wires g c = c.in-Refused.ensures.wires

pub returns-in-Refused-clause-ports : goal.returns-in-Refused-clause-ports
returns-in-Refused-clause-ports g c = c.in-Refused.ensures.ports

pub returns-in-Refused-clause-calls : goal.returns-in-Refused-clause-calls
returns-in-Refused-clause-calls g c = c.in-Refused.ensures.calls

pub returns-in-Refused-clause-cause : goal.returns-in-Refused-clause-cause
returns-in-Refused-clause-cause g c = cause_as (λ e. absurd (false≢true e)) c.in-Refused.ensures.cause

pub returns-in-Failed-clause-came : goal.returns-in-Failed-clause-came
returns-in-Failed-clause-came g c = tells_as c.in-Failed.ensures.tells (λ past. (refl, refl))

pub returns-in-Failed-clause-fault : goal.returns-in-Failed-clause-fault
returns-in-Failed-clause-fault g c = refl

pub returns-in-Failed-clause-goes : goal.returns-in-Failed-clause-goes
returns-in-Failed-clause-goes g c = c.in-Failed.ensures.goes

pub returns-in-Failed-clause-only : goal.returns-in-Failed-clause-only
returns-in-Failed-clause-only g c = c.in-Failed.ensures.only

pub returns-in-Failed-clause-drained : goal.returns-in-Failed-clause-drained
returns-in-Failed-clause-drained g c = c.in-Failed.ensures.drained

pub returns-in-Failed-clause-holds : goal.returns-in-Failed-clause-holds
returns-in-Failed-clause-holds g c = c.in-Failed.ensures.holds

pub returns-in-Failed-clause-offered : goal.returns-in-Failed-clause-offered
returns-in-Failed-clause-offered g c = c.in-Failed.ensures.offered

pub returns-in-Failed-clause-failed : goal.returns-in-Failed-clause-failed
returns-in-Failed-clause-failed g c = record { each = c.in-Failed.ensures.failed }

pub returns-in-Failed-clause-known : goal.returns-in-Failed-clause-known
returns-in-Failed-clause-known g c = c.in-Failed.ensures.known

pub returns-in-Failed-clause-same : goal.returns-in-Failed-clause-same
returns-in-Failed-clause-same g c = c.in-Failed.ensures.same

pub returns-in-Failed-clause-wires : goal.returns-in-Failed-clause-wires
returns-in-Failed-clause-wires g c = c.in-Failed.ensures.wires

pub returns-in-Failed-clause-ports : goal.returns-in-Failed-clause-ports
returns-in-Failed-clause-ports g c = c.in-Failed.ensures.ports

pub returns-in-Failed-clause-calls : goal.returns-in-Failed-clause-calls
returns-in-Failed-clause-calls g c = c.in-Failed.ensures.calls

pub returns-in-Failed-clause-cause : goal.returns-in-Failed-clause-cause
returns-in-Failed-clause-cause g c = cause_as (λ e. refl) c.in-Failed.ensures.cause
