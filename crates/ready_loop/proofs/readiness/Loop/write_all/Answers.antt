use Rattle.std.proofs.Common.{rules, arith, ◌≡◌, ◌∙◌, refl, Bool, ap, subst, ◌||◌}
use Rattle.world.proofs.MomentsLemmas.{told_start, told_then, told_as}
use Rattle.ready_loop.proofs.StandLemmas.{goes_start, goes_then, cause_then}
use Rattle.ready_loop.proofs.StateLemmas.{only_start, only_then, not_failed, known_start, known_then, offered_then, well_before}
use Rattle.world.specs.declared.conn.Conn.{Conn}
use Rattle.ready_loop.specs.States.{IsWell, failed_at}
use Rattle.ready_loop.proofs.PartLemmas.{calls_start, calls_then}
use Rattle.ready_loop.proofs.WireLemmas.{grows_same, wired_start, wired_then}
use Rattle.std.proofs.lemmas.Bool.{false≢true}
use Rattle.world.specs.Places.{is_at, place_of}
use Rattle.ready_loop.proofs.FaultLemmas.{cause_as, cause_last}
use Rattle.ready_loop.proofs.readiness.Loop.write_all.Goals as goal

pub loop-conn-init : goal.loop-conn-init
loop-conn-init g c = record {
  wires = wired_start;
  ports = refl;
  calls = calls_start;
  goes = told_start (λ x. goes_start x);
  only = only_start c.args.place c.args.self.now;
  calm = c.requires.calm;
  drained = λ d. d;
  known = known_start c.args.self.now;
  reads = omega arith;
  failed = λ p. refl;
  cause = search rules;
}

pub returns-in-Failed-clause-goes : goal.returns-in-Failed-clause-goes
returns-in-Failed-clause-goes g c = told_then c.loop-conn.invariant.goes c.in-Failed.ensures.goes (λ x y z a b. goes_then (λ h now r. r) (λ h now r. r) a b)

pub loop-conn-preserved : goal.loop-conn-preserved
loop-conn-preserved g c =
    let inv = c.loop-conn.invariant in
    record {
      wires = wired_then (grows_same c.write_at.ensures.ports) inv.wires c.write_at.ensures.wires;
      ports = c.write_at.ensures.ports ∙ inv.ports;
      calls = calls_then inv.calls c.write_at.ensures.calls;
      goes = told_then inv.goes c.write_at.ensures.goes (λ x y z a b. goes_then (λ h now r. r) (λ h now r. r) a b);
      only = only_then inv.only c.write_at.ensures.only;
      calm = c.write_at.ensures.calm inv.calm;
      drained = λ d. c.write_at.ensures.drained (inv.drained d);
      known = known_then inv.known c.write_at.ensures.known;
      reads = omega (arith, inv.reads, c.write_at.ensures.reads);
      failed = λ p. c.write_at.ensures.failed p ∙ not_failed c.write_at.result c.args.conn p (failed_at c.loop-conn.self p) c.in_default.not-Failed ∙ inv.failed p;
      cause = cause_then inv.cause c.write_at.ensures.cause (λ b. b) c.in_default.not-Failed;
    }

pub returns-in-Failed-clause-calls : goal.returns-in-Failed-clause-calls
returns-in-Failed-clause-calls g c = calls_then c.loop-conn.invariant.calls c.in-Failed.ensures.calls

pub returns-in-Failed-clause-wires : goal.returns-in-Failed-clause-wires
returns-in-Failed-clause-wires g c = wired_then (grows_same c.in-Failed.ensures.ports) c.loop-conn.invariant.wires c.in-Failed.ensures.wires

pub returns-in-Failed-clause-ports : goal.returns-in-Failed-clause-ports
returns-in-Failed-clause-ports g c = c.in-Failed.ensures.ports ∙ c.loop-conn.invariant.ports

pub returns-clause-wires : goal.returns-clause-wires
returns-clause-wires g c = c.loop-conn.invariant.wires

pub returns-clause-ports : goal.returns-clause-ports
returns-clause-ports g c = c.loop-conn.invariant.ports

pub returns-in-Failed-clause-came : goal.returns-in-Failed-clause-came
returns-in-Failed-clause-came g c = told_then c.loop-conn.invariant.goes c.in-Failed.ensures.came (λ x y z a b. b)

pub returns-in-Failed-clause-fault : goal.returns-in-Failed-clause-fault
returns-in-Failed-clause-fault g c = tt

pub returns-in-Failed-clause-only : goal.returns-in-Failed-clause-only
returns-in-Failed-clause-only g c = only_then c.loop-conn.invariant.only c.in-Failed.ensures.only

pub returns-in-Failed-clause-offered : goal.returns-in-Failed-clause-offered
returns-in-Failed-clause-offered g c = tt

pub returns-in-Failed-clause-drained : goal.returns-in-Failed-clause-drained
returns-in-Failed-clause-drained g c = λ d. c.in-Failed.ensures.drained (c.loop-conn.invariant.drained d)

pub returns-in-Failed-clause-failed : goal.returns-in-Failed-clause-failed
returns-in-Failed-clause-failed g c = record { each = λ p. c.in-Failed.ensures.failed p ∙ ap (λ (b : Bool). is_at p c.args.conn || b) (c.loop-conn.invariant.failed p) }

pub returns-in-Failed-clause-known : goal.returns-in-Failed-clause-known
returns-in-Failed-clause-known g c = known_then c.loop-conn.invariant.known c.in-Failed.ensures.known

pub returns-in-Failed-clause-cause : goal.returns-in-Failed-clause-cause
returns-in-Failed-clause-cause g c = cause_as (λ e. refl) (cause_last c.loop-conn.invariant.cause c.in-Failed.ensures.cause)

pub returns-clause-goes : goal.returns-clause-goes
returns-clause-goes g c = c.loop-conn.invariant.goes

pub returns-clause-came : goal.returns-clause-came
returns-clause-came g c = told_as c.loop-conn.invariant.goes (λ x y a. tt)

pub returns-clause-fault : goal.returns-clause-fault
returns-clause-fault g c = tt

pub returns-clause-only : goal.returns-clause-only
returns-clause-only g c = c.loop-conn.invariant.only

pub returns-clause-offered : goal.returns-clause-offered
returns-clause-offered g c = offered_then c.args.place (g.W.Journal.counts c.loop-conn.w).last c.loop-conn.self c.loop-conn.invariant.calm (λ m. absurd (false≢true (c.loop-conn-test.ensures.1 m)))

pub returns-clause-drained : goal.returns-clause-drained
returns-clause-drained g c = c.loop-conn.invariant.drained

pub returns-clause-failed : goal.returns-clause-failed
returns-clause-failed g c = record { each = c.loop-conn.invariant.failed }

pub returns-clause-known : goal.returns-clause-known
returns-clause-known g c = c.loop-conn.invariant.known

pub returns-clause-calls : goal.returns-clause-calls
returns-clause-calls g c = c.loop-conn.invariant.calls

pub returns-clause-cause : goal.returns-clause-cause
returns-clause-cause g c = cause_as false≢true c.loop-conn.invariant.cause

pub write_at-requires-clause-may : goal.write_at-requires-clause-may
write_at-requires-clause-may g c = (c.loop-conn-test.ensures.0 refl).0

pub write_at-requires-clause-some : goal.write_at-requires-clause-some
write_at-requires-clause-some g c = (c.loop-conn-test.ensures.0 refl).1

pub loop-conn-smaller : goal.loop-conn-smaller
loop-conn-smaller g c = c.write_at.ensures.less

pub returns-in-Failed-clause-reads : goal.returns-in-Failed-clause-reads
returns-in-Failed-clause-reads g c = omega (arith, c.loop-conn.invariant.reads, c.in-Failed.ensures.reads)

pub returns-in-Failed-clause-anew : goal.returns-in-Failed-clause-anew
returns-in-Failed-clause-anew g c = λ conn e.
    let same : c.args.conn ≡ conn = cc in
    subst (λ (x : Conn). (place_of x ≡ c.args.place) × IsWell c.args.self.now x) same
    (c.requires.place, well_before c.loop-conn.invariant.known c.loop-conn.invariant.failed c.in-Failed.ensures.well)

pub returns-clause-reads : goal.returns-clause-reads
returns-clause-reads g c = c.loop-conn.invariant.reads

pub returns-clause-anew : goal.returns-clause-anew
returns-clause-anew g c = λ conn e. absurd (cc)
