use Rattle.std.proofs.Common.{subst, true, ◌≡◌}
use Rattle.std.specs.Prelude.{is_some}
use Rattle.world.proofs.MomentsLemmas.{told_as}
use Rattle.job_run.specs.Standing.{is_idle}
use Rattle.job_run.specs.Steps.{OnlySaves}
use Rattle.job_run.proofs.ActLemmas.{told_while}
use Rattle.job_run.proofs.AskLemmas.{once_from}
use Rattle.job_run.proofs.ClockLemmas.{step_knows, step_passes, step_stands}
use Rattle.job_run.proofs.StepLemmas.{goes_told}
use Rattle.job_run.proofs.execution.Execution.step.Goals as goal

pub returns-clause-goes : goal.returns-clause-goes
returns-clause-goes g c = goes_told c.tell-step.ensures.book c.tell-step.ensures.task c.tell-step.ensures.terms c.tell-step.ensures.counts c.act.ensures.goes

pub returns-clause-saves : goal.returns-clause-saves
returns-clause-saves g c =
    subst (λ b. OnlySaves g.W.Journal.journal c.args.w.now c.act.new.w b) c.tell-step.ensures.book c.act.ensures.saves

pub returns-clause-asks : goal.returns-clause-asks
returns-clause-asks g c = once_from c.act.result c.args.self.now c.tell-step.new.self c.act.new.self c.tell-step.ensures.session c.act.ensures.asks

pub returns-clause-stands : goal.returns-clause-stands
returns-clause-stands g c o whole p number =
    let x = c.args.self.now in
    let t = c.tell-step in
    told_as (c.act.ensures.stands p number)
    (λ before after does s seen.
    (does (step_stands p number x t.new.self c.args.e t.result (is_some x.broken) t.ensures.rest t.ensures.takes c.requires.holds.heard c.requires.may c.requires.calm c.requires.other before o whole seen s)).0)

pub returns-clause-passes : goal.returns-clause-passes
returns-clause-passes g c q p number =
    let x = c.args.self.now in
    let t = c.tell-step in
    told_as (told_while (is_idle t.result.act ≡ true) (c.act.ensures.stands p number) (λ k. (c.act.ensures.still k).1))
    (λ before after so.
    step_passes p number x t.new.self c.args.e t.result (is_some x.broken) t.ensures.rest t.ensures.takes c.requires.holds.heard c.requires.may c.requires.calm c.requires.other c.act.new.self c.act.result before after q
    (λ k. (c.act.ensures.still k).0) so.1)

pub returns-clause-knows : goal.returns-clause-knows
returns-clause-knows g c q told on =
    let x = c.args.self.now in
    let t = c.tell-step in
    step_knows x t.new.self c.args.e t.result (is_some x.broken) t.ensures.takes c.requires.holds.heard c.requires.may c.requires.calm c.requires.other q t.ensures.todo.awaits told on
    c.act.new.self c.act.result (λ k. (c.act.ensures.still k).0)
