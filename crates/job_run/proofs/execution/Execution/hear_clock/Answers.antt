use Rattle.std.proofs.Common.{refl, sym, ◌∙◌}
use Rattle.std.proofs.Math.Bool.{true≢false}
use Rattle.world.specs.Moments.{start}
use Rattle.world.proofs.MomentsLemmas.{told_start}
use Rattle.job_run.proofs.AskLemmas.{once_keyed, once_named}
use Rattle.std.specs.Prelude.{is_some}
use Rattle.job_run.proofs.ClockLemmas.{clock_heard, passes_still}
use Rattle.job_run.proofs.ToldLemmas.{moment_may}
use Rattle.job_run.proofs.StepLemmas.{goes_still}
use Rattle.job_run.proofs.execution.Execution.hear_clock.Goals as goal

pub returns-then-wants_look-clause-saves : goal.returns-then-wants_look-clause-saves
returns-then-wants_look-clause-saves g c = told_start (λ x. start)

pub returns-then-wants_look-clause-key : goal.returns-then-wants_look-clause-key
returns-then-wants_look-clause-key g c = refl

pub returns-clause-saves : goal.returns-clause-saves
returns-clause-saves g c = c.step.ensures.saves

pub returns-clause-key : goal.returns-clause-key
returns-clause-key g c = once_keyed c.step.result c.args.self.now c.step.new.self c.step.ensures.asks

pub step-requires-clause-may : goal.step-requires-clause-may
step-requires-clause-may g c = moment_may c.args.self.now.core c.args.self.now.clock (is_some c.args.self.now.broken) c.requires.calm (λ events stands. sym c.if-wants_look.false ∙ c.wants_look.ensures events stands)

pub returns-then-wants_look-clause-passes : goal.returns-then-wants_look-clause-passes
returns-then-wants_look-clause-passes g c p number = told_start (λ now. passes_still p number c.args.self.now now)

pub returns-clause-passes : goal.returns-clause-passes
returns-clause-passes g c p number = c.step.ensures.passes refl p number

pub returns-then-wants_look-clause-name : goal.returns-then-wants_look-clause-name
returns-then-wants_look-clause-name g c = refl

pub returns-clause-name : goal.returns-clause-name
returns-clause-name g c = once_named c.step.result c.args.self.now c.step.new.self c.step.ensures.asks

pub returns-then-wants_look-clause-goes : goal.returns-then-wants_look-clause-goes
returns-then-wants_look-clause-goes g c = goes_still c.requires.holds c.requires.calm

pub returns-then-wants_look-clause-knows : goal.returns-then-wants_look-clause-knows
returns-then-wants_look-clause-knows g c told on still = absurd (true≢false (sym c.if-wants_look.true ∙ c.wants_look.ensures told on.stands ∙ still))

pub returns-clause-knows : goal.returns-clause-knows
returns-clause-knows g c = clock_heard c.args.self.now c.step.new.self c.step.result (c.step.ensures.knows refl)
