use Rattle.std.proofs.Common.{rules, ◌≡◌, ap, subst, sym, ◌∙◌}
use Rattle.cell_core.specs.declared.act.Act.TheVariants.{Nothing}
use Rattle.cell_core.specs.StandsFor.{task_of}
use Rattle.job_saves.specs.Course.{Stands, HasPart, stays_open}
use Rattle.job_run.specs.declared.execution.Execution.{Execution}
use Rattle.world.proofs.MomentsLemmas.{told_as}
use Rattle.job_run.proofs.ClockLemmas.{loss_goes, turned_loses}
use Rattle.job_run.proofs.CountLemmas.{counts_on}
use Rattle.job_run.proofs.execution.Execution.lose_or_ask.Goals as goal

pub returns-in-Ok-clause-goes : goal.returns-in-Ok-clause-goes
returns-in-Ok-clause-goes g c =
    let l = c.in-Ok.ensures.goes.step in
    let x = c.lose.new.self in
    let y = c.ask_or_end.new.self in
    let e = c.ask_or_end.ensures in
    let j = g.W.Journal.journal c.lose.new.w in
    let k = g.W.Journal.counts c.lose.new.w in
    let book : y.book ≡ x.book = ap (λ (z : Execution). z.book) e.asked in
    record {
      step = record {
        holds = search rules;
        calm = search rules;
        course = λ o s. subst (λ b. Stands o b (stays_open c.ask_or_end.result) j k) (sym book) (subst (λ q. Stands o x.book q j k) (sym e.saved) (l.course o s));
        calls = λ cast since from s. subst (λ b. HasPart cast since from b j k) (sym book) (l.calls cast since from s);
        task = ap (λ (z : Execution). task_of z.core) e.asked ∙ l.task;
        terms = ap (λ (z : Execution). z.terms) e.asked ∙ l.terms;
        own = e.own;
        counts = λ o on s h. counts_on o x y Nothing c.ask_or_end.result j e.counts (l.counts o on s h);
      };
      clock = c.in-Ok.ensures.goes.clock;
    }

pub returns-in-Ok-clause-stands : goal.returns-in-Ok-clause-stands
returns-in-Ok-clause-stands g c p number =
    told_as (c.in-Ok.ensures.passes p number)
    (λ before after pass h.
    c.ask_or_end.ensures.stands p number after
    (turned_loses p number c.args.self.now c.lose.new.self before after pass c.in-Ok.ensures.knows c.requires.calm c.in-Ok.ensures.goes.step.calm h))

pub returns-in-Err-clause-stands : goal.returns-in-Err-clause-stands
returns-in-Err-clause-stands g c p number =
    told_as (c.in-Err.ensures.passes p number)
    (λ before after pass h. absurd (loss_goes p number c.args.self.now c.lose.new.self c.in-Err.end before after pass h))
