use Rattle.std.proofs.Common.{arith, refl}
use Rattle.world.proofs.MomentsLemmas.{told_start}
use Rattle.job_run.proofs.ClockLemmas.{loss_keeps, passes_still}
use Rattle.job_run.proofs.StepLemmas.{goes_still}
use Rattle.job_run.proofs.execution.Execution.lose.Goals as goal

pub returns-then-is_lost-clause-passes : goal.returns-then-is_lost-clause-passes
returns-then-is_lost-clause-passes g c p number = c.step.ensures.passes refl p number

pub returns-else-is_lost-clause-passes : goal.returns-else-is_lost-clause-passes
returns-else-is_lost-clause-passes g c p number = told_start (λ now. passes_still p number c.args.self.now now)

pub returns-else-is_lost-clause-goes : goal.returns-else-is_lost-clause-goes
returns-else-is_lost-clause-goes g c = goes_still c.requires.holds c.requires.calm

pub returns-then-is_lost-clause-knows : goal.returns-then-is_lost-clause-knows
returns-then-is_lost-clause-knows g c = loss_keeps c.args.self.now c.step.new.self c.step.result c.requires.calm (c.step.ensures.knows refl)

pub returns-else-is_lost-clause-knows : goal.returns-else-is_lost-clause-knows
returns-else-is_lost-clause-knows g c told on = omega arith
