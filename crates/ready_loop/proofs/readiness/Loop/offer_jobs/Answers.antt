use Rattle.std.proofs.Common.{rules, arith, ◌≡◌, ◌≢◌, ◌/◌, ◌∙◌, refl, true, false, ap, ℕ, subst}
use Rattle.std.proofs.lemmas.Option.{unwrap_or-slice_get}
use Rattle.world.proofs.MomentsLemmas.{told_start, told_then, told_both, told_as}
use Rattle.ready_loop.specs.Offers.{is_looked, BeginsBelow}
use Rattle.ready_loop.proofs.StandLemmas.{goes_start, goes_then, cause_then}
use Rattle.ready_loop.proofs.StateLemmas.{known_start, known_then, calm_joins, well_before}
use Rattle.ready_loop.proofs.LookLemmas.{below_none, below_skip, below_more, look_moment, offered_at}
use Rattle.ready_loop.proofs.PartLemmas.{calls_start, calls_then}
use Rattle.ready_loop.proofs.WireLemmas.{grows_same, wired_start, wired_then}
use Rattle.std.proofs.lemmas.Bool.{false≢true}
use Rattle.ready_loop.proofs.FaultLemmas.{fails_then, cause_as, cause_last}
use Rattle.world.specs.Moments.{Told}
use Rattle.ready_loop.proofs.readiness.Loop.offer_jobs.Goals as goal

pub loop-place-init : goal.loop-place-init
loop-place-init g c = record {
  wires = wired_start;
  ports = refl;
  calls = calls_start;
  goes = told_start (λ x. goes_start x);
  begins = told_start (λ x. below_none c.args.jobs.now c.args.self.now x);
  untouched = λ p le. refl;
  offered = λ o. o;
  calm = λ k. k;
  drained = λ d. d;
  known = known_start c.args.self.now;
  failed = λ p. refl;
  left = search rules;
  cause = search rules;
}

pub loop-place-preserved-then-not-jobs-place : goal.loop-place-preserved-then-not-jobs-place
loop-place-preserved-then-not-jobs-place g c =
    let inv = c.loop-place.invariant in
    let skip : is_looked c.args.jobs.now (c.loop-place.place / 4) ≡ false = unwrap_or-slice_get c.args.jobs.now (c.loop-place.place / 4) false ∙ c.if-not-jobs-place.true in
    record {
      wires = inv.wires;
      ports = inv.ports;
      calls = inv.calls;
      goes = inv.goes;
      begins = told_as inv.begins (λ x y b. below_skip skip b);
      untouched = λ p le. inv.untouched p (omega arith);
      offered = inv.offered;
      calm = inv.calm;
      drained = inv.drained;
      known = inv.known;
      failed = inv.failed;
      left = inv.left;
      cause = inv.cause;
    }

pub returns-in-Err-clause-goes : goal.returns-in-Err-clause-goes
returns-in-Err-clause-goes g c =
    let n = c.loop-place.place in
    let looked : is_looked c.args.jobs.now (c.loop-place.place / 4) ≡ true = unwrap_or-slice_get c.args.jobs.now (c.loop-place.place / 4) false ∙ c.if-not-jobs-place.false in
    told_then c.loop-place.invariant.goes c.in-Err.ensures.goes (λ x y z a b. goes_then (λ h now r. r) (λ h now r. look_moment n c.args.jobs.now looked h now r) a b)

pub loop-place-preserved : goal.loop-place-preserved
loop-place-preserved g c =
    let inv = c.loop-place.invariant in
    let at = c.in-Ok.ensures in
    let n = c.loop-place.place in
    let looked : is_looked c.args.jobs.now (c.loop-place.place / 4) ≡ true = unwrap_or-slice_get c.args.jobs.now (c.loop-place.place / 4) false ∙ c.if-not-jobs-place.false in
    record {
      wires = wired_then (grows_same at.ports) inv.wires at.wires;
      ports = at.ports ∙ inv.ports;
      calls = calls_then inv.calls at.calls;
      goes = told_then inv.goes at.goes (λ x y z a b. goes_then (λ h now r. r) (λ h now r. look_moment n c.args.jobs.now looked h now r) a b);
      begins = told_then (told_both inv.begins inv.goes) (told_both at.begins at.goes) (λ x y z a b. below_more (inv.untouched n (omega arith)) a.0 a.1 b.0 b.1);
      untouched = λ p le. let ne : p ≢ c.loop-place.place = λ e. omega (arith, e) in at.only.links p ne ∙ inv.untouched p (omega arith);
      offered = λ o. offered_at at.only at.offered (inv.offered o);
      calm = λ k. calm_joins n (g.W.Journal.counts c.loop-place.w).last (g.W.Journal.counts c.offer_at.new.w).last c.loop-place.self c.offer_at.new.self
          (ap (λ k. k.last) at.cause.others) at.only at.offered.calm (inv.calm k);
      drained = λ d. at.drained (inv.drained d);
      known = known_then inv.known at.known;
      failed = λ p. at.failed.each p ∙ inv.failed p;
      left = at.only.left ∙ inv.left;
      cause = cause_then inv.cause at.cause (λ b. b) (λ e. cc);
    }

pub returns-in-Err-clause-calls : goal.returns-in-Err-clause-calls
returns-in-Err-clause-calls g c = calls_then c.loop-place.invariant.calls c.in-Err.ensures.calls

pub returns-in-Err-clause-wires : goal.returns-in-Err-clause-wires
returns-in-Err-clause-wires g c = wired_then (grows_same c.in-Err.ensures.ports) c.loop-place.invariant.wires c.in-Err.ensures.wires

pub returns-in-Err-clause-ports : goal.returns-in-Err-clause-ports
returns-in-Err-clause-ports g c = c.in-Err.ensures.ports ∙ c.loop-place.invariant.ports

pub returns-clause-wires : goal.returns-clause-wires
returns-clause-wires g c = c.loop-place.invariant.wires

pub returns-clause-ports : goal.returns-clause-ports
returns-clause-ports g c = c.loop-place.invariant.ports

pub returns-in-Err-clause-came : goal.returns-in-Err-clause-came
returns-in-Err-clause-came g c = told_then c.loop-place.invariant.goes c.in-Err.ensures.came (λ x y z a b. b)

pub returns-in-Err-clause-fault : goal.returns-in-Err-clause-fault
returns-in-Err-clause-fault g c = c.in-Err.ensures.fault

pub returns-in-Err-clause-begins : goal.returns-in-Err-clause-begins
returns-in-Err-clause-begins g c = tt

pub returns-in-Err-clause-offered : goal.returns-in-Err-clause-offered
returns-in-Err-clause-offered g c = tt

pub returns-in-Err-clause-calm : goal.returns-in-Err-clause-calm
returns-in-Err-clause-calm g c = tt

pub returns-in-Err-clause-drained : goal.returns-in-Err-clause-drained
returns-in-Err-clause-drained g c = λ d. c.in-Err.ensures.drained (c.loop-place.invariant.drained d)

pub returns-in-Err-clause-failed : goal.returns-in-Err-clause-failed
returns-in-Err-clause-failed g c = fails_then c.loop-place.invariant.failed c.in-Err.ensures.failed

pub returns-in-Err-clause-known : goal.returns-in-Err-clause-known
returns-in-Err-clause-known g c = known_then c.loop-place.invariant.known c.in-Err.ensures.known

pub returns-in-Err-clause-left : goal.returns-in-Err-clause-left
returns-in-Err-clause-left g c = c.in-Err.ensures.only.left ∙ c.loop-place.invariant.left

pub returns-in-Err-clause-cause : goal.returns-in-Err-clause-cause
returns-in-Err-clause-cause g c = cause_last c.loop-place.invariant.cause c.in-Err.ensures.cause

pub returns-clause-goes : goal.returns-clause-goes
returns-clause-goes g c = c.loop-place.invariant.goes

pub returns-clause-came : goal.returns-clause-came
returns-clause-came g c = told_as c.loop-place.invariant.goes (λ x y a. tt)

pub returns-clause-fault : goal.returns-clause-fault
returns-clause-fault g c = tt

pub returns-clause-begins : goal.returns-clause-begins
returns-clause-begins g c =
    let end : c.loop-place.place ≡ 64 = omega arith in
    subst (λ (n : ℕ). Told (g.W.Journal.journal c.args.w.now) (g.W.Journal.journal c.loop-place.w) (BeginsBelow n c.args.jobs.now c.args.self.now)) end c.loop-place.invariant.begins

pub returns-clause-offered : goal.returns-clause-offered
returns-clause-offered g c = c.loop-place.invariant.offered

pub returns-clause-calm : goal.returns-clause-calm
returns-clause-calm g c = c.loop-place.invariant.calm

pub returns-clause-drained : goal.returns-clause-drained
returns-clause-drained g c = c.loop-place.invariant.drained

pub returns-clause-failed : goal.returns-clause-failed
returns-clause-failed g c = record { each = c.loop-place.invariant.failed }

pub returns-clause-known : goal.returns-clause-known
returns-clause-known g c = c.loop-place.invariant.known

pub returns-clause-left : goal.returns-clause-left
returns-clause-left g c = c.loop-place.invariant.left

pub returns-clause-calls : goal.returns-clause-calls
returns-clause-calls g c = c.loop-place.invariant.calls

pub returns-clause-cause : goal.returns-clause-cause
returns-clause-cause g c = cause_as false≢true c.loop-place.invariant.cause

pub returns-in-Err-clause-anew : goal.returns-in-Err-clause-anew
returns-in-Err-clause-anew g c = λ conn e. well_before c.loop-place.invariant.known c.loop-place.invariant.failed (c.in-Err.ensures.anew conn e).1

pub returns-clause-anew : goal.returns-clause-anew
returns-clause-anew g c = λ conn e. absurd (cc)
