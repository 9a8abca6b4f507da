use Rattle.std.proofs.Common.{refl, true}
use Rattle.job_run.proofs.StepLemmas.{goes_kept, goes_still, goes_told}
use Rattle.std.proofs.Common.{◌≡◌, ap, inl, inr, subst, sym, ◌∙◌}
use Rattle.world.proofs.MomentsLemmas.{told_as, told_start}
use Rattle.cell_core.specs.declared.act.Act.TheVariants.{Nothing}
use Rattle.job_run.specs.declared.execution.Execution.{Execution}
use Rattle.job_run.specs.Standing.{DoesAct, StaysStill, is_idle}
use Rattle.job_run.proofs.ActLemmas.{told_while}
use Rattle.job_run.proofs.ReadyLemmas.{ready_does, unready_uses}
use Rattle.job_run.proofs.execution.Execution.note_ready.Goals.{then-self-via-then-self, then-self-via-else-self+then-not-is_ready}
use Rattle.job_run.proofs.execution.Execution.note_ready.Goals as goal

pub returns-clause-goes : goal.returns-clause-goes
returns-clause-goes g c =
    let t = c.tell-step.ensures in
    goes_kept {y = record c.args.self.now { is_ready = true }} refl (record { core = refl; clock = refl; broken = refl; terms = refl }) (goes_told t.book t.task t.terms t.counts c.act.ensures.goes)

pub returns-clause-uses : goal.returns-clause-uses
returns-clause-uses g c p number chan ms =
    let x = c.args.self.now in
    let t = c.tell-step in
    told_as (told_while (t.result.act ≡ Nothing) (c.act.ensures.stands p number) (λ e. (c.act.ensures.still (ap is_idle e)).1))
    (λ before after does h.
    ready_does p number x chan ms before h c.requires.calm c.if-self.false (sym c.is_ready.ensures ∙ c.if-not-is_ready.false) t.new.self.core t.result t.ensures.takes c.act.result c.act.new.self after
    (subst (λ (e : Execution). DoesAct p number e t.result.act c.act.new.self c.act.result before after) t.ensures.rest does.0)
    (λ e. subst (λ (d : Execution). StaysStill d c.act.new.self c.act.result) t.ensures.rest (c.act.ensures.still (ap is_idle e)).0))

pub returns-then-self-clause-uses : goal.returns-then-self-clause-uses
returns-then-self-clause-uses g c p number chan ms = told_start (λ now h.
    unready_uses p number c.args.self.now chan ms now h c.requires.calm (elim c.then-self.branch [
      | then-self-via-then-self w ↦ inl w.if-self.true
      | then-self-via-else-self+then-not-is_ready w ↦ inr (sym w.is_ready.ensures ∙ w.if-not-is_ready.true)
    ]))

pub returns-then-self-clause-goes : goal.returns-then-self-clause-goes
returns-then-self-clause-goes g c = goes_still c.requires.holds c.requires.calm
