use Rattle.job_run.proofs.StepLemmas.{goes_starved, goes_told, goes_used}
use Rattle.std.proofs.Common.{◌≡◌, ap, subst, ◌∙◌}
use Rattle.std.specs.Option.{option_copied}
use Rattle.world.specs.declared.chan.Chan.TheVariants.{Iopub}
use Rattle.world.proofs.MomentsLemmas.{told_as, told_start}
use Rattle.cell_core.specs.declared.act.Act.TheVariants.{Nothing}
use Rattle.job_run.specs.declared.execution.Execution.{Execution}
use Rattle.cell_core.specs.declared.event.Event.TheVariants.{Io}
use Rattle.job_notebook.specs.State.{KeepsParts}
use Rattle.job_run.specs.Standing.{DoesAct, StaysStill, is_idle}
use Rattle.job_run.specs.Used.{TakesEvent, UsesMessage}
use Rattle.job_run.proofs.ActLemmas.{told_while}
use Rattle.job_run.proofs.MessageLemmas.{io_deals, uses_starved}
use Rattle.job_run.proofs.execution.Execution.on_content.Goals as goal

pub returns-in-Ok-clause-goes : goal.returns-in-Ok-clause-goes
returns-in-Ok-clause-goes g c =
    let t = c.tell-step.ensures in
    let k = c.take.ensures in
    goes_told t.book t.task t.terms t.counts (goes_used k.course k.calls k.told c.act.ensures.goes)

pub returns-in-Err-clause-goes : goal.returns-in-Err-clause-goes
returns-in-Err-clause-goes g c =
    let t = c.tell-step.ensures in
    let k = c.take.ensures in
    goes_told t.book t.task t.terms t.counts (goes_used k.course k.calls k.told (goes_starved k.holds))

pub returns-in-Ok-clause-uses : goal.returns-in-Ok-clause-uses
returns-in-Ok-clause-uses g c p number standing done rest m own =
    let x = c.args.self.now in
    let t = c.tell-step in
    let k = c.take in
    let same = k.ensures.rest ∙ ap (λ (e : Execution). record e { book = k.new.self.book }) t.ensures.rest in
    told_as (told_while (t.result.act ≡ Nothing) (c.act.ensures.stands p number) (λ e. (c.act.ensures.still (ap is_idle e)).1))
    (λ before after does u.
    io_deals p number x standing done rest m c.args.content.now (option_copied c.args.date) own t.new.self.core t.result k.new.self.book
    (subst (λ b. TakesEvent (Io b) t.result x.core t.new.self.core) c.brief_of.ensures t.ensures.takes) c.requires.calm
    (subst (λ b. KeepsParts b k.new.self.book) t.ensures.book k.ensures.parts) (λ e. k.ensures.still e ∙ t.ensures.book)
    (subst (λ b. UsesMessage t.result.takes c.args.content.now (option_copied c.args.date) b k.new.self.book) t.ensures.book c.in-Ok.ensures.uses) c.act.result c.act.new.self before after
    (subst (λ (e : Execution). DoesAct p number e t.result.act c.act.new.self c.act.result before after) same does.0)
    (λ e. subst (λ (d : Execution). StaysStill d c.act.new.self c.act.result) same (c.act.ensures.still (ap is_idle e)).0) does.1 u)

pub returns-in-Err-clause-uses : goal.returns-in-Err-clause-uses
returns-in-Err-clause-uses g c p number standing done rest m own = told_start (λ now u. uses_starved p number c.args.self.now standing Iopub done _ now u)
