use Rattle.std.proofs.Common.{arith, sym, ◌∙◌}
use Rattle.zmtp_wire.specs.Machine.{step, run}
use Rattle.zmtp_wire.proofs.RunLemmas.{run-turn, goes_start, goes_on, goes_done, run-done}
use Rattle.zmtp_wire.proofs.machine.run.Goals as goal

pub loop-rest-init : goal.loop-rest-init
loop-rest-init c = record { low = omega arith; goes = goes_start _ _ _; short = λ h. h }

pub loop-rest-preserved-in-Some : goal.loop-rest-preserved-in-Some
loop-rest-preserved-in-Some c =
    let l = c.loop-rest in
    let f = c.in_ok-at in
    let head = c.in-Some.ensures.cases.0 in
    let n = c.in_ok-now.ensures in
    let r = c.args.role in
    let t = step r f.field-0-0 f.field-0-1 c.in-Some.octet.now in
    let at = c.saturating_add-at.result in
    let u = run r at c.in_ok-now.now c.in-Some.after.now in
    let w = run r l.at l.now l.rest.now in
    let turn = run-turn r l.at f.field-0-0 at l.now f.field-0-1 c.in_ok-now.now c.in-Some.octet.now l.rest.now f.field-0-2.now c.in-Some.after.now (f.ensures.run r) head n.state c.saturating_add-at.ensures in
    record { low = c.saturating_add-at.type_inv; goes = goes_on _ w t u _ l.out c.step.new.out _ l.owed c.step.new.owed l.invariant.goes turn n.messages n.owed; short = λ h. n.short (l.invariant.short h) }

pub returns-clause-state : goal.returns-clause-state
returns-clause-state c =
    (goes_done _ _ c.loop-rest.now _ _ _ _ c.loop-rest.invariant.goes (run-done c.args.role c.loop-rest.at c.loop-rest.now c.loop-rest.rest.now (sym c.is_empty.ensures ∙ c.loop-rest-test.false))).0

pub returns-clause-messages : goal.returns-clause-messages
returns-clause-messages c =
    (goes_done _ _ c.loop-rest.now _ _ _ _ c.loop-rest.invariant.goes (run-done c.args.role c.loop-rest.at c.loop-rest.now c.loop-rest.rest.now (sym c.is_empty.ensures ∙ c.loop-rest-test.false))).1

pub returns-clause-owed : goal.returns-clause-owed
returns-clause-owed c =
    (goes_done _ _ c.loop-rest.now _ _ _ _ c.loop-rest.invariant.goes (run-done c.args.role c.loop-rest.at c.loop-rest.now c.loop-rest.rest.now (sym c.is_empty.ensures ∙ c.loop-rest-test.false))).2
