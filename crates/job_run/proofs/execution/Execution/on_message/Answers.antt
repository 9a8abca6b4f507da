use Rattle.std.proofs.Common.{sym, ◌∙◌}
use Rattle.world.proofs.MomentsLemmas.{told_start}
use Rattle.run_journal.specs.Jupyter.{arrival_of}
use Rattle.job_run.proofs.MessageLemmas.{is_other, is_own, other_passes, uses_starved}
use Rattle.job_run.proofs.StepLemmas.{goes_starved, goes_still}
use Rattle.job_run.proofs.execution.Execution.on_message.Goals as goal

pub returns-then-not-is_of_request-clause-uses : goal.returns-then-not-is_of_request-clause-uses
returns-then-not-is_of_request-clause-uses g c p number done rest = told_start (λ now u.
    other_passes p number c.args.self.now c.args.standing c.args.chan done rest (arrival_of c.args.message.now) now
    (is_other c.args.self.now c.args.standing c.args.message.now (sym c.is_of_request.ensures.is ∙ c.if-not-is_of_request.true)) u)

pub returns-in-Ok-clause-uses : goal.returns-in-Ok-clause-uses
returns-in-Ok-clause-uses g c p number done rest =
    c.on_own.ensures.uses p number c.args.standing done rest (arrival_of c.args.message.now)
    (is_own c.args.self.now c.args.standing c.args.message.now _ _ (sym c.is_of_request.ensures.is ∙ c.if-not-is_of_request.false) c.in-Ok.ensures.is c.as_ref.ensures.value)

pub returns-in-Err-clause-uses : goal.returns-in-Err-clause-uses
returns-in-Err-clause-uses g c p number done rest = told_start (λ now u. uses_starved p number c.args.self.now c.args.standing c.args.chan done _ now u)

pub returns-then-not-is_of_request-clause-goes : goal.returns-then-not-is_of_request-clause-goes
returns-then-not-is_of_request-clause-goes g c = goes_still c.requires.holds c.requires.calm

pub returns-in-Err-clause-goes : goal.returns-in-Err-clause-goes
returns-in-Err-clause-goes g c = goes_starved c.requires.holds
