use Rattle.std.proofs.Common.{sym, subst, ap, ◌∙◌}
use Rattle.std.specs.Prelude.{codes}
use Rattle.world.specs.declared.chan.Chan.TheVariants.{Control}
use Rattle.zmtp_wire.specs.Meaning.{is_shaken}
use Rattle.kernel_lines.specs.Happened.{came_in}
use Rattle.kernel_lines.specs.Line.{StandsFor, role_of}
use Rattle.job_run.specs.Said.{QueuesNext, ShutsDown}
use Rattle.job_run.proofs.ListenLemmas.{on_then}
use Rattle.job_run.proofs.execution.Execution.shut_down.Goals as goal

pub returns-clause-queues : goal.returns-clause-queues
returns-clause-queues c =
    let x = c.args.self.now in
    let y = c.say.new.self in
    on_then c.say.result (λ q h out s.
    let is = c.is_shaken.ensures h out (subst (λ l. StandsFor l h out) (sym c.of.ensures) s) in
    subst (λ b. ShutsDown b x y) (sym c.if-not-is_shaken.false ∙ is ∙ ap (λ l. is_shaken (role_of l) (came_in h)) c.of.ensures)
    (subst (λ t. QueuesNext Control (codes "shutdown_request") t x y) c.in_ok-content.ensures q)) c.say.ensures.queues
