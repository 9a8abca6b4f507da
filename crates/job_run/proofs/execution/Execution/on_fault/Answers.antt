use Rattle.std.proofs.Common.{ap, subst, sym, ◌∙◌}
use Rattle.std.specs.Prelude.{is_some}
use Rattle.std.proofs.Math.Bool.{true≢false}
use Rattle.world.proofs.MomentsLemmas.{told_as, told_start}
use Rattle.job_journal.specs.Plot.{facts}
use Rattle.job_run.specs.Standing.{BreaksAs}
use Rattle.job_run.proofs.StepLemmas.{goes_still}
use Rattle.job_run.proofs.execution.Execution.on_fault.Goals as goal

pub returns-in-None-clause-stands : goal.returns-in-None-clause-stands
returns-in-None-clause-stands g c p number = told_start (λ before broken s. s)

pub returns-in-None-clause-goes : goal.returns-in-None-clause-goes
returns-in-None-clause-goes g c = goes_still c.requires.holds c.requires.calm

pub returns-in-Some-clause-stands : goal.returns-in-Some-clause-stands
returns-in-Some-clause-stands g c p number =
    told_as (c.on_broken.ensures.stands p number) (λ before after so broken s. so (subst (λ v. BreaksAs (facts p) c.args.chan v before) c.in-Some.is broken) s)

pub returns-in-Some-clause-ends : goal.returns-in-Some-clause-ends
returns-in-Some-clause-ends g c p number =
    told_as (c.on_broken.ensures.ends p number) (λ before after so broken s some. so (subst (λ v. BreaksAs (facts p) c.args.chan v before) c.in-Some.is broken) s)

pub returns-in-None-clause-ends : goal.returns-in-None-clause-ends
returns-in-None-clause-ends g c p number = told_start (λ before broken s some. true≢false (sym some ∙ ap is_some c.in-None.is))
