use Rattle.job_run.proofs.StepLemmas.{goes_starved, goes_told, goes_used}
use Rattle.std.proofs.Common.{◌≡◌, not, ap, subst, ◌∙◌}
use Rattle.cell_core.specs.Allowed.{is_allowed}
use Rattle.std.specs.Option.{option_copied}
use Rattle.world.specs.declared.chan.Chan.TheVariants.{Shell}
use Rattle.world.proofs.MomentsLemmas.{told_as, told_start}
use Rattle.cell_core.specs.declared.act.Act.TheVariants.{Nothing}
use Rattle.job_run.specs.declared.execution.Execution.{Execution}
use Rattle.job_notebook.specs.State.{KeepsParts}
use Rattle.job_run.specs.Used.{NotesReply, SameRequest, UsesReply}
use Rattle.job_run.specs.Standing.{DoesAct, StaysStill, is_idle}
use Rattle.job_run.proofs.ActLemmas.{told_while}
use Rattle.job_run.proofs.MessageLemmas.{uses_starved}
use Rattle.job_run.proofs.ReplyLemmas.{reply_deals}
use Rattle.job_run.proofs.execution.Execution.on_reply.Goals as goal

pub returns-in-Ok-clause-goes : goal.returns-in-Ok-clause-goes
returns-in-Ok-clause-goes g c =
    let t = c.tell-step.ensures in
    let k = c.take_reply.ensures in
    goes_told t.book t.task t.terms t.counts (goes_used k.course k.calls k.told c.act.ensures.goes)

pub returns-in-Err-clause-goes : goal.returns-in-Err-clause-goes
returns-in-Err-clause-goes g c =
    let t = c.tell-step.ensures in
    let k = c.take_reply.ensures in
    goes_told t.book t.task t.terms t.counts (goes_used k.course k.calls k.told (goes_starved k.holds))

pub returns-in-Ok-clause-uses : goal.returns-in-Ok-clause-uses
returns-in-Ok-clause-uses g c p number standing done rest m own =
    let x = c.args.self.now in
    let t = c.tell-step in
    let k = c.take_reply in
    let same = k.ensures.rest ∙ ap (λ (e : Execution). record e { book = k.new.self.book; request = k.new.self.request }) t.ensures.rest in
    told_as (told_while (t.result.act ≡ Nothing) (c.act.ensures.stands p number) (λ e. (c.act.ensures.still (ap is_idle e)).1))
    (λ before after does u.
    reply_deals p number x standing done rest m c.args.reply _ (option_copied c.args.date) own
    (ap not (c.allowed-fatal.ensures ∙ ap (λ b. is_allowed c.args.reply x.terms.all_errors x.terms.names b) c.is_tagged.ensures)) t.new.self.core t.result k.new.self.book k.new.self.request t.ensures.takes c.requires.calm
    (subst (λ b. KeepsParts b k.new.self.book) t.ensures.book k.ensures.parts) (λ e. k.ensures.still e ∙ t.ensures.book)
    (subst (λ b. UsesReply t.result.takes (option_copied c.args.date) b k.new.self.book) t.ensures.book c.in-Ok.ensures.uses)
    (subst (λ o. SameRequest o k.new.self.request) t.ensures.request k.ensures.request)
    (subst (λ o. NotesReply t.result.takes (not c.allowed-fatal.result) c.args.reply o k.new.self.request) t.ensures.request c.in-Ok.ensures.notes) c.act.result c.act.new.self before after
    (subst (λ (e : Execution). DoesAct p number e t.result.act c.act.new.self c.act.result before after) same does.0)
    (λ e. subst (λ (d : Execution). StaysStill d c.act.new.self c.act.result) same (c.act.ensures.still (ap is_idle e)).0) does.1 u)

pub returns-in-Err-clause-uses : goal.returns-in-Err-clause-uses
returns-in-Err-clause-uses g c p number standing done rest m own = told_start (λ now u. uses_starved p number c.args.self.now standing Shell done _ now u)
