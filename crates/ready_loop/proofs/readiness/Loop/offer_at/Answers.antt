use Rattle.world.proofs.MomentsLemmas.{told_then, told_both, told_as}
use Rattle.ready_loop.proofs.StandLemmas.{goes_then}
use Rattle.ready_loop.proofs.LookLemmas.{begins_then}
use Rattle.ready_loop.proofs.OfferLemmas.{forced_at}
use Rattle.ready_loop.proofs.PartLemmas.{calls_then}
use Rattle.std.proofs.Common.{arith, ◌∙◌, subst, sym, refl, Result, IfErr}
use Rattle.ready_loop.proofs.WireLemmas.{grows_same, wired_then}
use Rattle.ready_loop.proofs.StateLemmas.{only_then, known_then, well_before}
use Rattle.ready_loop.proofs.FaultLemmas.{fails_then, cause_last, handed_on, cause_as}
use Rattle.std.proofs.lemmas.Result.{IfOk-from_err}
use Rattle.ready_loop.specs.declared.fault.LoopFault.{LoopFault}
use Rattle.ready_loop.specs.Offers.{IsOfConn, FaultCame}
use Rattle.ready_loop.specs.States.{FailsOnly, IsOfferedAt}
use Rattle.ready_loop.proofs.readiness.Loop.offer_at.Goals as goal

pub returns-clause-goes : goal.returns-clause-goes
returns-clause-goes g c = told_then c.in_ok-begin_again.ensures.goes c.write_all.ensures.goes (λ x y z a b.
    goes_then (λ h now r. r) (λ h now r. forced_at c.args.forced c.args.place h now r) a b)

pub returns-clause-begins : goal.returns-clause-begins
returns-clause-begins g c = told_then (told_both c.in_ok-begin_again.ensures.begins c.in_ok-begin_again.ensures.goes) c.write_all.ensures.goes (λ x y z a b. begins_then a.0 a.1 b)

pub returns-clause-calls : goal.returns-clause-calls
returns-clause-calls g c = calls_then c.in_ok-begin_again.ensures.calls c.write_all.ensures.calls

pub returns-clause-ports : goal.returns-clause-ports
returns-clause-ports g c = c.write_all.ensures.ports ∙ c.in_ok-begin_again.ensures.ports

pub returns-clause-wires : goal.returns-clause-wires
returns-clause-wires g c = wired_then (grows_same c.write_all.ensures.ports) c.in_ok-begin_again.ensures.wires c.write_all.ensures.wires

pub returns-in_err-begin_again-clause-wires : goal.returns-in_err-begin_again-clause-wires
returns-in_err-begin_again-clause-wires g c = c.in_err-begin_again.ensures.wires

pub returns-in_err-begin_again-clause-goes : goal.returns-in_err-begin_again-clause-goes
returns-in_err-begin_again-clause-goes g c = c.in_err-begin_again.ensures.goes

pub returns-in_err-begin_again-clause-came : goal.returns-in_err-begin_again-clause-came
returns-in_err-begin_again-clause-came g c = told_as c.in_err-begin_again.ensures.came (λ x y came. subst (λ (r : Result (Unit {0}) LoopFault). FaultCame r y) (sym (handed_on c.from_residual.ensures.1)) came)

pub returns-in_err-begin_again-clause-fault : goal.returns-in_err-begin_again-clause-fault
returns-in_err-begin_again-clause-fault g c = subst (λ (r : Result (Unit {0}) LoopFault). IfErr r IsOfConn) (sym (handed_on c.from_residual.ensures.1)) c.in_err-begin_again.ensures.fault

pub returns-in_err-begin_again-clause-begins : goal.returns-in_err-begin_again-clause-begins
returns-in_err-begin_again-clause-begins g c = c.in_err-begin_again.ensures.begins

pub returns-in_err-begin_again-clause-only : goal.returns-in_err-begin_again-clause-only
returns-in_err-begin_again-clause-only g c = c.in_err-begin_again.ensures.only

pub returns-in_err-begin_again-clause-drained : goal.returns-in_err-begin_again-clause-drained
returns-in_err-begin_again-clause-drained g c = c.in_err-begin_again.ensures.drained

pub returns-in_err-begin_again-clause-failed : goal.returns-in_err-begin_again-clause-failed
returns-in_err-begin_again-clause-failed g c = subst (λ (r : Result (Unit {0}) LoopFault). FailsOnly r c.args.self.now c.begin_again.new.self) (sym (handed_on c.from_residual.ensures.1))
    c.in_err-begin_again.ensures.failed

pub returns-in_err-begin_again-clause-known : goal.returns-in_err-begin_again-clause-known
returns-in_err-begin_again-clause-known g c = c.in_err-begin_again.ensures.known

pub returns-in_err-begin_again-clause-ports : goal.returns-in_err-begin_again-clause-ports
returns-in_err-begin_again-clause-ports g c = c.in_err-begin_again.ensures.ports

pub returns-in_err-begin_again-clause-calls : goal.returns-in_err-begin_again-clause-calls
returns-in_err-begin_again-clause-calls g c = c.in_err-begin_again.ensures.calls

pub returns-in_err-begin_again-clause-cause : goal.returns-in_err-begin_again-clause-cause
returns-in_err-begin_again-clause-cause g c = cause_as (λ e. refl) c.in_err-begin_again.ensures.cause

pub returns-in_err-begin_again-clause-offered : goal.returns-in_err-begin_again-clause-offered
returns-in_err-begin_again-clause-offered g c = IfOk-from_err c.from_residual.result (λ u. IsOfferedAt c.args.place (g.W.Journal.counts c.begin_again.new.w).last c.begin_again.new.self) c.from_residual.ensures.0

pub returns-clause-came : goal.returns-clause-came
returns-clause-came g c = told_then c.in_ok-begin_again.ensures.came c.write_all.ensures.came (λ x y z m n. n)

pub returns-clause-fault : goal.returns-clause-fault
returns-clause-fault g c = c.write_all.ensures.fault

pub returns-clause-only : goal.returns-clause-only
returns-clause-only g c = only_then c.in_ok-begin_again.ensures.only c.write_all.ensures.only

pub returns-clause-offered : goal.returns-clause-offered
returns-clause-offered g c = c.write_all.ensures.offered

pub returns-clause-drained : goal.returns-clause-drained
returns-clause-drained g c = λ d. c.write_all.ensures.drained (c.in_ok-begin_again.ensures.drained d)

pub returns-clause-failed : goal.returns-clause-failed
returns-clause-failed g c = fails_then c.in_ok-begin_again.ensures.failed.each c.write_all.ensures.failed

pub returns-clause-known : goal.returns-clause-known
returns-clause-known g c = known_then c.in_ok-begin_again.ensures.known c.write_all.ensures.known

pub returns-clause-cause : goal.returns-clause-cause
returns-clause-cause g c = cause_last c.in_ok-begin_again.ensures.cause c.write_all.ensures.cause

pub returns-in_err-begin_again-clause-anew : goal.returns-in_err-begin_again-clause-anew
returns-in_err-begin_again-clause-anew g c = λ conn e. c.in_err-begin_again.ensures.anew conn (sym (handed_on c.from_residual.ensures.1) ∙ e)

pub returns-in_err-begin_again-clause-reads : goal.returns-in_err-begin_again-clause-reads
returns-in_err-begin_again-clause-reads g c = c.in_err-begin_again.ensures.reads

pub returns-clause-anew : goal.returns-clause-anew
returns-clause-anew g c = λ conn e.
    let r = c.write_all.ensures.anew conn e in
    (r.0, well_before c.in_ok-begin_again.ensures.known c.in_ok-begin_again.ensures.failed.each r.1)

pub returns-clause-reads : goal.returns-clause-reads
returns-clause-reads g c = omega (arith, c.in_ok-begin_again.ensures.reads, c.write_all.ensures.reads)
