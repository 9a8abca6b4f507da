use Rattle.std.proofs.Common.{rules, arith, false, ◌∙◌, ap, refl, ◌≡◌, ℕ, subst, sym, Result, IfErr}
use Rattle.world.proofs.MomentsLemmas.{told_start, told_then, told_as}
use Rattle.ready_loop.proofs.StandLemmas.{goes_start, goes_then, cause_then}
use Rattle.ready_loop.proofs.StateLemmas.{offered_more, known_start, known_then, well_before}
use Rattle.ready_loop.proofs.OfferLemmas.{offer_moment}
use Rattle.ready_loop.proofs.PartLemmas.{calls_start, calls_then}
use Rattle.ready_loop.proofs.WireLemmas.{grows_same, wired_start, wired_then}
use Rattle.std.proofs.lemmas.Bool.{false≢true}
use Rattle.ready_loop.proofs.FaultLemmas.{fails_then, cause_as, cause_last, handed_on}
use Rattle.std.proofs.lemmas.Result.{IfOk-from_err}
use Rattle.ready_loop.specs.declared.fault.LoopFault.{LoopFault}
use Rattle.ready_loop.specs.Offers.{IsOfConn, FaultCame}
use Rattle.ready_loop.specs.States.{FailsOnly, AllOfferedBelow}
use Rattle.ready_loop.proofs.readiness.Loop.offer_all.Goals as goal

pub loop-place-init : goal.loop-place-init
loop-place-init g c = record {
  wires = wired_start;
  ports = refl;
  calls = calls_start;
  goes = told_start (λ x. goes_start x);
  offered = record { each = λ p low. absurd (omega arith) };
  drained = λ d. d;
  known = known_start c.args.self.now;
  reads = omega arith;
  failed = λ p. refl;
  left = search rules;
  cause = search rules;
}

pub returns-in_err-offer_at-clause-goes : goal.returns-in_err-offer_at-clause-goes
returns-in_err-offer_at-clause-goes g c = told_then c.loop-place.invariant.goes c.in_err-offer_at.ensures.goes (λ x y z a b.
    goes_then (λ h now r. r) (λ h now r. offer_moment false c.loop-place.place h now r) a b)

pub loop-place-preserved : goal.loop-place-preserved
loop-place-preserved g c =
    let inv = c.loop-place.invariant in
    let at = c.in_ok-offer_at.ensures in
    record {
      wires = wired_then (grows_same at.ports) inv.wires at.wires;
      ports = at.ports ∙ inv.ports;
      calls = calls_then inv.calls at.calls;
      goes = told_then inv.goes at.goes (λ x y z a b. goes_then (λ h now r. r) (λ h now r. offer_moment false c.loop-place.place h now r) a b);
      offered = offered_more c.loop-place.place (g.W.Journal.counts c.loop-place.w).last (g.W.Journal.counts c.offer_at.new.w).last c.loop-place.self c.offer_at.new.self
          (ap (λ k. k.last) at.cause.others) at.only at.offered inv.offered;
      drained = λ d. at.drained (inv.drained d);
      known = known_then inv.known at.known;
      reads = omega (arith, inv.reads, at.reads);
      failed = λ p. at.failed.each p ∙ inv.failed p;
      left = at.only.left ∙ inv.left;
      cause = cause_then inv.cause at.cause (λ b. b) (λ e. cc);
    }

pub returns-in_err-offer_at-clause-calls : goal.returns-in_err-offer_at-clause-calls
returns-in_err-offer_at-clause-calls g c = calls_then c.loop-place.invariant.calls c.in_err-offer_at.ensures.calls

pub returns-in_err-offer_at-clause-wires : goal.returns-in_err-offer_at-clause-wires
returns-in_err-offer_at-clause-wires g c = wired_then (grows_same c.in_err-offer_at.ensures.ports) c.loop-place.invariant.wires c.in_err-offer_at.ensures.wires

pub returns-in_err-offer_at-clause-ports : goal.returns-in_err-offer_at-clause-ports
returns-in_err-offer_at-clause-ports g c = c.in_err-offer_at.ensures.ports ∙ c.loop-place.invariant.ports

pub returns-clause-wires : goal.returns-clause-wires
returns-clause-wires g c = c.loop-place.invariant.wires

pub returns-clause-ports : goal.returns-clause-ports
returns-clause-ports g c = c.loop-place.invariant.ports

pub returns-in_err-offer_at-clause-came : goal.returns-in_err-offer_at-clause-came
returns-in_err-offer_at-clause-came g c = told_then c.loop-place.invariant.goes c.in_err-offer_at.ensures.came (λ x y z a came. subst (λ (r : Result (Unit {0}) LoopFault). FaultCame r z) (sym (handed_on c.from_residual.ensures.1)) came)

pub returns-in_err-offer_at-clause-fault : goal.returns-in_err-offer_at-clause-fault
returns-in_err-offer_at-clause-fault g c = subst (λ (r : Result (Unit {0}) LoopFault). IfErr r IsOfConn) (sym (handed_on c.from_residual.ensures.1)) c.in_err-offer_at.ensures.fault

pub returns-in_err-offer_at-clause-offered : goal.returns-in_err-offer_at-clause-offered
returns-in_err-offer_at-clause-offered g c = IfOk-from_err c.from_residual.result (λ u. AllOfferedBelow 64 (g.W.Journal.counts c.offer_at.new.w).last c.offer_at.new.self) c.from_residual.ensures.0

pub returns-in_err-offer_at-clause-drained : goal.returns-in_err-offer_at-clause-drained
returns-in_err-offer_at-clause-drained g c = λ d. c.in_err-offer_at.ensures.drained (c.loop-place.invariant.drained d)

pub returns-in_err-offer_at-clause-failed : goal.returns-in_err-offer_at-clause-failed
returns-in_err-offer_at-clause-failed g c = subst (λ (r : Result (Unit {0}) LoopFault). FailsOnly r c.args.self.now c.offer_at.new.self) (sym (handed_on c.from_residual.ensures.1))
    (fails_then c.loop-place.invariant.failed c.in_err-offer_at.ensures.failed)

pub returns-in_err-offer_at-clause-known : goal.returns-in_err-offer_at-clause-known
returns-in_err-offer_at-clause-known g c = known_then c.loop-place.invariant.known c.in_err-offer_at.ensures.known

pub returns-in_err-offer_at-clause-left : goal.returns-in_err-offer_at-clause-left
returns-in_err-offer_at-clause-left g c = c.in_err-offer_at.ensures.only.left ∙ c.loop-place.invariant.left

pub returns-in_err-offer_at-clause-cause : goal.returns-in_err-offer_at-clause-cause
returns-in_err-offer_at-clause-cause g c = cause_as (λ e. refl) (cause_last c.loop-place.invariant.cause c.in_err-offer_at.ensures.cause)

pub returns-clause-goes : goal.returns-clause-goes
returns-clause-goes g c = c.loop-place.invariant.goes

pub returns-clause-came : goal.returns-clause-came
returns-clause-came g c = told_as c.loop-place.invariant.goes (λ x y a. tt)

pub returns-clause-fault : goal.returns-clause-fault
returns-clause-fault g c = tt

pub returns-clause-offered : goal.returns-clause-offered
returns-clause-offered g c =
    let end : c.loop-place.place ≡ 64 = omega arith in
    subst (λ (n : ℕ). AllOfferedBelow n (g.W.Journal.counts c.loop-place.w).last c.loop-place.self) end c.loop-place.invariant.offered

pub returns-clause-drained : goal.returns-clause-drained
returns-clause-drained g c = c.loop-place.invariant.drained

pub returns-clause-failed : goal.returns-clause-failed
returns-clause-failed g c = record { each = c.loop-place.invariant.failed }

pub returns-clause-known : goal.returns-clause-known
returns-clause-known g c = c.loop-place.invariant.known

pub returns-clause-left : goal.returns-clause-left
returns-clause-left g c = c.loop-place.invariant.left

pub returns-clause-calls : goal.returns-clause-calls
returns-clause-calls g c = c.loop-place.invariant.calls

pub returns-clause-cause : goal.returns-clause-cause
returns-clause-cause g c = cause_as false≢true c.loop-place.invariant.cause

pub returns-in_err-offer_at-clause-anew : goal.returns-in_err-offer_at-clause-anew
returns-in_err-offer_at-clause-anew g c = λ conn e.
    well_before c.loop-place.invariant.known c.loop-place.invariant.failed (c.in_err-offer_at.ensures.anew conn (sym (handed_on c.from_residual.ensures.1) ∙ e)).1

pub returns-in_err-offer_at-clause-reads : goal.returns-in_err-offer_at-clause-reads
returns-in_err-offer_at-clause-reads g c = omega (arith, c.loop-place.invariant.reads, c.in_err-offer_at.ensures.reads)

pub returns-clause-anew : goal.returns-clause-anew
returns-clause-anew g c = λ conn e. absurd (cc)

pub returns-clause-reads : goal.returns-clause-reads
returns-clause-reads g c = c.loop-place.invariant.reads
