use Rattle.world.proofs.MomentsLemmas.{told_start, told_as}
use Rattle.ready_loop.proofs.StandLemmas.{goes_start}
use Rattle.ready_loop.proofs.LookLemmas.{begins_none, begins_one}
use Rattle.ready_loop.proofs.PartLemmas.{calls_start}
use Rattle.ready_loop.proofs.WireLemmas.{wired_start}
use Rattle.std.proofs.Common.{◌≡◌, ℕ, refl, subst}
use Rattle.std.proofs.lemmas.Bool.{false≢true}
use Rattle.world.specs.declared.conn.Conn.{Conn}
use Rattle.world.specs.Places.{place_of}
use Rattle.ready_loop.specs.States.{IsCalmAt, IsWell}
use Rattle.ready_loop.proofs.StateLemmas.{only_start, calm_none, known_start}
use Rattle.ready_loop.proofs.FaultLemmas.{cause_as, cause_start}
use Rattle.ready_loop.proofs.readiness.Loop.begin_again.Goals as goal

pub returns-then-not-is_to_begin-clause-goes : goal.returns-then-not-is_to_begin-clause-goes
returns-then-not-is_to_begin-clause-goes g c = told_start (λ x. goes_start x)

pub returns-then-not-is_to_begin-clause-begins : goal.returns-then-not-is_to_begin-clause-begins
returns-then-not-is_to_begin-clause-begins g c = told_start (λ x. begins_none c.args.forced c.args.place c.last.result c.args.self.now c.at.result c.at.ensures.found c.if-not-is_to_begin.ensures.1 x)

pub returns-in-Begun-clause-begins : goal.returns-in-Begun-clause-begins
returns-in-Begun-clause-begins g c = told_as c.in-Begun.ensures.connects (λ x y k. begins_one k)

pub returns-in-Refused-clause-begins : goal.returns-in-Refused-clause-begins
returns-in-Refused-clause-begins g c = told_as c.in-Refused.ensures.connects (λ x y k. begins_one k)

pub returns-in-Failed-clause-begins : goal.returns-in-Failed-clause-begins
returns-in-Failed-clause-begins g c = told_as c.in-Failed.ensures.connects (λ x y k. begins_one k)

pub returns-then-not-is_to_begin-clause-calls : goal.returns-then-not-is_to_begin-clause-calls
returns-then-not-is_to_begin-clause-calls g c = calls_start

pub returns-then-not-is_to_begin-clause-wires : goal.returns-then-not-is_to_begin-clause-wires
returns-then-not-is_to_begin-clause-wires g c = wired_start

pub returns-in-Begun-clause-wires : goal.returns-in-Begun-clause-wires
returns-in-Begun-clause-wires g c = c.in-Begun.ensures.wires

pub returns-in-Refused-clause-wires : goal.returns-in-Refused-clause-wires
returns-in-Refused-clause-wires g c = c.in-Refused.ensures.wires

pub returns-in-Failed-clause-wires : goal.returns-in-Failed-clause-wires
returns-in-Failed-clause-wires g c = c.in-Failed.ensures.wires

pub returns-then-not-is_to_begin-clause-came : goal.returns-then-not-is_to_begin-clause-came
returns-then-not-is_to_begin-clause-came g c = told_start (λ x. tt)

pub returns-then-not-is_to_begin-clause-fault : goal.returns-then-not-is_to_begin-clause-fault
returns-then-not-is_to_begin-clause-fault g c = tt

pub returns-then-not-is_to_begin-clause-only : goal.returns-then-not-is_to_begin-clause-only
returns-then-not-is_to_begin-clause-only g c = only_start c.args.place c.args.self.now

pub returns-then-not-is_to_begin-clause-calm : goal.returns-then-not-is_to_begin-clause-calm
returns-then-not-is_to_begin-clause-calm g c = subst (λ (n : ℕ). IsCalmAt c.args.place n c.args.self.now) c.last.ensures.is
    (calm_none c.args.place c.last.result c.args.forced c.args.self.now c.at.result c.at.ensures.found (λ m. absurd (false≢true (c.if-not-is_to_begin.ensures.1 m))))

pub returns-then-not-is_to_begin-clause-drained : goal.returns-then-not-is_to_begin-clause-drained
returns-then-not-is_to_begin-clause-drained g c = λ d. d

pub returns-then-not-is_to_begin-clause-failed : goal.returns-then-not-is_to_begin-clause-failed
returns-then-not-is_to_begin-clause-failed g c = record { each = λ p. refl }

pub returns-then-not-is_to_begin-clause-known : goal.returns-then-not-is_to_begin-clause-known
returns-then-not-is_to_begin-clause-known g c = known_start c.args.self.now

pub returns-then-not-is_to_begin-clause-ports : goal.returns-then-not-is_to_begin-clause-ports
returns-then-not-is_to_begin-clause-ports g c = refl

pub returns-then-not-is_to_begin-clause-cause : goal.returns-then-not-is_to_begin-clause-cause
returns-then-not-is_to_begin-clause-cause g c = cause_start false≢true

pub returns-in-Begun-clause-goes : goal.returns-in-Begun-clause-goes
returns-in-Begun-clause-goes g c = c.in-Begun.ensures.goes

pub returns-in-Begun-clause-came : goal.returns-in-Begun-clause-came
returns-in-Begun-clause-came g c = c.in-Begun.ensures.came

pub returns-in-Begun-clause-fault : goal.returns-in-Begun-clause-fault
returns-in-Begun-clause-fault g c = tt

pub returns-in-Begun-clause-only : goal.returns-in-Begun-clause-only
returns-in-Begun-clause-only g c = c.in-Begun.ensures.only

pub returns-in-Begun-clause-calm : goal.returns-in-Begun-clause-calm
returns-in-Begun-clause-calm g c = c.in-Begun.ensures.calm

pub returns-in-Begun-clause-drained : goal.returns-in-Begun-clause-drained
returns-in-Begun-clause-drained g c = c.in-Begun.ensures.drained

pub returns-in-Begun-clause-failed : goal.returns-in-Begun-clause-failed
returns-in-Begun-clause-failed g c = record { each = c.in-Begun.ensures.failed }

pub returns-in-Begun-clause-known : goal.returns-in-Begun-clause-known
returns-in-Begun-clause-known g c = c.in-Begun.ensures.known

pub returns-in-Begun-clause-ports : goal.returns-in-Begun-clause-ports
returns-in-Begun-clause-ports g c = c.in-Begun.ensures.ports

pub returns-in-Begun-clause-calls : goal.returns-in-Begun-clause-calls
returns-in-Begun-clause-calls g c = c.in-Begun.ensures.calls

pub returns-in-Begun-clause-cause : goal.returns-in-Begun-clause-cause
returns-in-Begun-clause-cause g c = cause_as (λ e. absurd (false≢true e)) c.in-Begun.ensures.cause

pub returns-in-Refused-clause-goes : goal.returns-in-Refused-clause-goes
returns-in-Refused-clause-goes g c = c.in-Refused.ensures.goes

pub returns-in-Refused-clause-came : goal.returns-in-Refused-clause-came
returns-in-Refused-clause-came g c = c.in-Refused.ensures.came

pub returns-in-Refused-clause-fault : goal.returns-in-Refused-clause-fault
returns-in-Refused-clause-fault g c = tt

pub returns-in-Refused-clause-only : goal.returns-in-Refused-clause-only
returns-in-Refused-clause-only g c = c.in-Refused.ensures.only

pub returns-in-Refused-clause-calm : goal.returns-in-Refused-clause-calm
returns-in-Refused-clause-calm g c = c.in-Refused.ensures.calm

pub returns-in-Refused-clause-drained : goal.returns-in-Refused-clause-drained
returns-in-Refused-clause-drained g c = c.in-Refused.ensures.drained

pub returns-in-Refused-clause-failed : goal.returns-in-Refused-clause-failed
returns-in-Refused-clause-failed g c = record { each = c.in-Refused.ensures.failed }

pub returns-in-Refused-clause-known : goal.returns-in-Refused-clause-known
returns-in-Refused-clause-known g c = c.in-Refused.ensures.known

pub returns-in-Refused-clause-ports : goal.returns-in-Refused-clause-ports
returns-in-Refused-clause-ports g c = c.in-Refused.ensures.ports

pub returns-in-Refused-clause-calls : goal.returns-in-Refused-clause-calls
returns-in-Refused-clause-calls g c = c.in-Refused.ensures.calls

pub returns-in-Refused-clause-cause : goal.returns-in-Refused-clause-cause
returns-in-Refused-clause-cause g c = cause_as (λ e. absurd (false≢true e)) c.in-Refused.ensures.cause

pub returns-in-Failed-clause-goes : goal.returns-in-Failed-clause-goes
returns-in-Failed-clause-goes g c = c.in-Failed.ensures.goes

pub returns-in-Failed-clause-came : goal.returns-in-Failed-clause-came
returns-in-Failed-clause-came g c = c.in-Failed.ensures.came

pub returns-in-Failed-clause-fault : goal.returns-in-Failed-clause-fault
returns-in-Failed-clause-fault g c = tt

pub returns-in-Failed-clause-only : goal.returns-in-Failed-clause-only
returns-in-Failed-clause-only g c = c.in-Failed.ensures.only

pub returns-in-Failed-clause-calm : goal.returns-in-Failed-clause-calm
returns-in-Failed-clause-calm g c = tt

pub returns-in-Failed-clause-drained : goal.returns-in-Failed-clause-drained
returns-in-Failed-clause-drained g c = c.in-Failed.ensures.drained

pub returns-in-Failed-clause-failed : goal.returns-in-Failed-clause-failed
returns-in-Failed-clause-failed g c = record { each = c.in-Failed.ensures.failed }

pub returns-in-Failed-clause-known : goal.returns-in-Failed-clause-known
returns-in-Failed-clause-known g c = c.in-Failed.ensures.known

pub returns-in-Failed-clause-ports : goal.returns-in-Failed-clause-ports
returns-in-Failed-clause-ports g c = c.in-Failed.ensures.ports

pub returns-in-Failed-clause-calls : goal.returns-in-Failed-clause-calls
returns-in-Failed-clause-calls g c = c.in-Failed.ensures.calls

pub returns-in-Failed-clause-cause : goal.returns-in-Failed-clause-cause
returns-in-Failed-clause-cause g c = cause_as (λ e. refl) c.in-Failed.ensures.cause

pub returns-then-not-is_to_begin-clause-anew : goal.returns-then-not-is_to_begin-clause-anew
returns-then-not-is_to_begin-clause-anew g c = λ conn e. absurd (cc)

pub returns-in-Begun-clause-anew : goal.returns-in-Begun-clause-anew
returns-in-Begun-clause-anew g c = λ conn e. absurd (cc)

pub returns-in-Refused-clause-anew : goal.returns-in-Refused-clause-anew
returns-in-Refused-clause-anew g c = λ conn e. absurd (cc)

pub returns-in-Failed-clause-anew : goal.returns-in-Failed-clause-anew
returns-in-Failed-clause-anew g c = λ conn e.
    let same : c.args.conn ≡ conn = cc in
    subst (λ (x : Conn). (place_of x ≡ c.args.place) × IsWell c.args.self.now x) same (c.requires.place, c.in-Failed.ensures.well)
