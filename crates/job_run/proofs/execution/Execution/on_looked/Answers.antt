use Rattle.std.proofs.Common.{refl}
use Rattle.world.proofs.MomentsLemmas.{told_as, told_then}
use Rattle.run_journal.specs.Agreement.{looked}
use Rattle.job_run.proofs.ClockLemmas.{passes_on}
use Rattle.job_run.proofs.StandingLemmas.{ended_so}
use Rattle.job_run.proofs.StepLemmas.{goes_err, goes_then}
use Rattle.job_run.proofs.execution.Execution.on_looked.Goals as goal

pub returns-clause-goes : goal.returns-clause-goes
returns-clause-goes g c = goes_then c.in_ok-step.ensures.goes c.lose.ensures.goes

pub returns-in_err-step-clause-goes : goal.returns-in_err-step-clause-goes
returns-in_err-step-clause-goes g c = goes_err c.from_residual.ensures.1 c.in_err-step.ensures.goes

pub returns-clause-stands : goal.returns-clause-stands
returns-clause-stands g c p number =
    told_then (c.in_ok-step.ensures.stands looked refl p number) (c.lose.ensures.passes p number)
    (λ x y z first pass s whole. passes_on p number c.step.new.self c.lose.new.self c.lose.result y z pass (first s (λ e. whole)))

pub returns-in_err-step-clause-stands : goal.returns-in_err-step-clause-stands
returns-in_err-step-clause-stands g c p number =
    told_as (c.in_err-step.ensures.stands looked refl p number)
    (λ x z first s whole. ended_so p number c.step.new.self c.from_residual.result _ z c.from_residual.ensures.1 (first s (λ e. whole)))
