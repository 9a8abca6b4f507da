use Rattle.std.proofs.Common.{ap, subst, sym, ◌∙◌}
use Rattle.std.specs.Prelude.{codes}
use Rattle.std.proofs.lemmas.Result.{on_ok_weaker}
use Rattle.world.specs.declared.chan.Chan.TheVariants.{Shell}
use Rattle.kernel_talk.specs.Requests.{message_id}
use Rattle.job_run.specs.Said.{QueuesNext}
use Rattle.job_run.proofs.ClockLemmas.{asked_stands, can_by_lines, unasked_stands}
use Rattle.job_run.proofs.execution.Execution.ask.Goals as goal

pub returns-then-not-is_due-clause-stands : goal.returns-then-not-is_due-clause-stands
returns-then-not-is_due-clause-stands c p number now h =
    let x = c.args.self.now in
    unasked_stands p number x now h c.can_ask.result (can_by_lines p number x now h c.can_ask.result c.can_ask.ensures) (sym c.is_due.ensures ∙ c.if-not-is_due.true)

pub returns-clause-stands : goal.returns-clause-stands
returns-clause-stands c =
    let x = c.args.self.now in
    let z = c.say.new.self in
    on_ok_weaker c.on_request.result
    (λ asking p number now h.
    asked_stands p number x now h z c.say.ensures.said
    (subst (λ t. QueuesNext Shell (codes "kernel_info_request") t x z) c.empty_content-content.ensures c.in_ok-say.ensures.queues) c.can_ask.result (can_by_lines p number x now h c.can_ask.result c.can_ask.ensures)
    (sym c.is_due.ensures ∙ c.if-not-is_due.false) c.in_ok-id.id (c.in_ok-id.ensures ∙ ap (λ n. message_id z.session.name n) c.made.ensures) c.on_request.new.self asking)
    c.on_request.ensures.ok
