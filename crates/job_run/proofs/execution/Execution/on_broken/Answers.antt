use Rattle.std.proofs.Common.{◌≡◌, false, ap, subst, sym, ◌∙◌}
use Rattle.std.proofs.Math.Bool.{true≢false}
use Rattle.cell_core.specs.Acts.{has_stopped, heard}
use Rattle.cell_core.specs.StandsFor.{StandsFor, awaits_saved_of, task_of}
use Rattle.cell_core.specs.declared.machine.Core.{Core}
use Rattle.job_run.proofs.BrokenLemmas.{broken_ends, broken_now}
use Rattle.job_run.proofs.CountLemmas.{named_counts}
use Rattle.job_run.proofs.StepLemmas.{goes_told}
use Rattle.cell_core.specs.declared.event.Event.TheVariants.{Broken}
use Rattle.world.proofs.MomentsLemmas.{told_as}
use Rattle.run_journal.specs.Agreement.{broken}
use Rattle.job_run.proofs.StandingLemmas.{broken_stands, told_other}
use Rattle.job_run.proofs.execution.Execution.on_broken.Goals as goal

pub returns-clause-goes : goal.returns-clause-goes
returns-clause-goes g c =
    let x = c.args.self.now in
    let b = c.note_broken in
    let t = c.tell-step.ensures in
    goes_told {y = b.new.self} b.ensures.book (ap task_of b.ensures.core) b.ensures.terms (λ n i. named_counts x b.new.self n b.ensures.core b.ensures.clock b.ensures.named i)
    (goes_told t.book t.task t.terms t.counts c.act.ensures.goes)

pub returns-clause-stands : goal.returns-clause-stands
returns-clause-stands g c p number =
    let b = c.note_broken in
    let t = c.tell-step in
    told_as (c.act.ensures.stands p number)
    (λ before after does is s.
    (does
    (told_other p number b.new.self t.new.self.core Broken t.result before (broken_stands p number c.args.self.now b.new.self before b.ensures.rest s) t.ensures.takes
    (sym (ap awaits_saved_of b.ensures.core ∙ c.requires.calm)) tt t.new.self t.ensures.rest
    (λ f. record { chan = c.args.chan; fault = c.args.fault; noted = b.ensures.noted; is = is }) (λ e. absurd (true≢false (sym e))) broken)).0)

pub returns-clause-ends : goal.returns-clause-ends
returns-clause-ends g c p number =
    let b = c.note_broken in
    let t = c.tell-step in
    told_as (returns-clause-stands g c p number)
    (λ before after so is s.
    let told = s.parts.core.told in
    let on = subst (λ task. has_stopped task (heard task told) ≡ false) (sym s.parts.is_for.task_is) s.parts.core.hears.goes_on in
    let stands = subst (λ (k : Core). StandsFor k told) (sym b.ensures.core) s.parts.core.hears.stands in
    broken_ends p number t.new.self.core c.act.new.self c.act.result after
    (broken_now b.new.self.core t.new.self.core told t.ensures.takes.same (subst (λ (k : Core). has_stopped (task_of k) (heard (task_of k) told) ≡ false) (sym b.ensures.core) on)
    (t.ensures.takes.stands told stands tt))
    c.act.ensures.broken c.act.ensures.goes.step.calm (so is s))
