use Rattle.std.proofs.Common.{refl, sym, ap, subst, ◌∙◌}
use Rattle.world.specs.Moments.{start}
use Rattle.world.proofs.MomentsLemmas.{since_then, told_as, told_start, told_then}
use Rattle.job_saves.specs.Course.{Stands}
use Rattle.job_run.proofs.AskLemmas.{acts_once}
use Rattle.job_run.proofs.BrokenLemmas.{on_ok}
use Rattle.job_run.proofs.CountLemmas.{counts_on, quiet_at}
use Rattle.job_run.proofs.CauseLemmas.{calls_output}
use Rattle.job_run.proofs.StandingLemmas.{ended_so}
use Rattle.job_run.proofs.StepLemmas.{goes_err}
use Rattle.job_saves.proofs.SessionLemmas.{saves_then}
use Rattle.job_notebook.specs.State.{output_of}
use Rattle.job_run.specs.Standing.{StandsTo, is_idle}
use Rattle.job_run.specs.Told.{KnowsBroken}
use Rattle.job_run.proofs.ActLemmas.{acts_on, busy_save, ended_does, stays_from}
use Rattle.job_run.proofs.execution.Execution.act.Goals as goal

pub loop-act-init : goal.loop-act-init
loop-act-init g c = record {
  holds = c.requires.holds;
  todo = c.requires.todo;
  course = λ o s. s;
  calls = λ cast since from s. s;
  saves = told_start (λ x. start);
  reads = told_start (λ x. start);
  task = refl;
  terms = refl;
  session = refl;
  counts = λ o on s h. h;
  stands = λ p number. told_start (λ before clock t. t);
  clock = refl;
  sent = refl;
  kind = λ e. e;
  broken = λ b. b;
  still = λ e. (refl, refl, refl);
}

pub loop-act-preserved : goal.loop-act-preserved
loop-act-preserved g c =
    let i = c.loop-act.invariant in
    let e = c.in_ok-act.ensures in
    record {
      holds = e.holds;
      todo = e.todo;
      course = λ o s. e.course o (i.course o s);
      calls = λ cast since from s. e.calls cast since from (i.calls cast since from s);
      saves = saves_then (output_of c.args.self.now.book) (output_of c.loop-act.self.book)
          (calls_output c.args.self.now.book c.loop-act.self.book (g.W.Journal.journal c.args.w.now) (g.W.Journal.journal c.loop-act.w) (g.W.Journal.counts c.args.w.now) (g.W.Journal.counts c.loop-act.w) i.calls)
          i.saves e.saves;
      reads = told_then i.reads e.reads (λ x y z v w. since_then v w);
      task = e.task ∙ i.task;
      terms = e.terms ∙ i.terms;
      session = e.asks ∙ i.session;
      counts = λ o on s h. e.counts o on (i.course o s) (quiet_at o c.loop-act.self c.loop-act.act (g.W.Journal.journal c.loop-act.w) (i.counts o on s h));
      stands = λ p number. told_then (i.stands p number) (e.stands p number)
          (λ x y z first then clock t. then clock (subst (λ act. StandsTo p number (record c.loop-act.self { clock = clock }) act y) c.in-Save.is (first clock t)));
      clock = e.clock ∙ i.clock;
      sent = e.sent ∙ i.sent;
      kind = λ k. e.kind;
      broken = λ b. e.broken (i.broken b);
      still = λ k. absurd (busy_save k (sym (i.still k).1 ∙ c.in-Save.is));
    }

pub returns : goal.returns
returns g c =
    let i = c.loop-act.invariant in
    let p = c.perform.ensures in
    record {
      goes = record {
        step = record {
          holds = p.holds;
          calm = p.calm;
          course = λ o s. subst (λ b. Stands o c.perform.new.self.book b (g.W.Journal.journal c.loop-act.w) (g.W.Journal.counts c.loop-act.w)) (sym p.saved)
              (p.course o _ _ _ (i.course o s));
          calls = λ cast since from s. p.calls cast since from _ _ (i.calls cast since from s);
          task = p.task ∙ i.task;
          terms = p.terms ∙ i.terms;
          own = p.own;
          counts = λ o on s h. counts_on o c.loop-act.self c.perform.new.self c.loop-act.act c.perform.result (g.W.Journal.journal c.loop-act.w) p.counts (i.counts o on s h);
        };
        clock = i.reads;
      };
      saves = i.saves;
      asks = acts_once c.perform.result c.loop-act.act c.args.self.now c.loop-act.self c.perform.new.self i.session p.asks;
      stands = λ q number. told_as (i.stands q number)
          (λ before after so. acts_on q number c.args.self.now c.loop-act.self c.perform.new.self c.args.act c.loop-act.act c.perform.result before after
          (λ t. subst (λ clock. StandsTo q number (record c.loop-act.self { clock = clock }) c.loop-act.act after) (sym i.clock) (so c.args.self.now.clock t)) i.sent i.kind (p.stands q number after));
      clock = p.clock ∙ i.clock;
      broken = on_ok c.perform.result (λ b. subst KnowsBroken (sym p.core) (i.broken b));
      unsent = λ q number. told_as (i.stands q number) (λ before after so none clock t. p.unsent q number clock after none (so clock t));
      still = λ e. (stays_from c.args.self.now c.loop-act.self c.perform.new.self c.perform.result (i.still e).0 (p.still (ap is_idle (i.still e).1 ∙ e)), (i.still e).2);
    }

pub returns-in_err-act-clause-saves : goal.returns-in_err-act-clause-saves
returns-in_err-act-clause-saves g c =
    let i = c.loop-act.invariant in
    saves_then (output_of c.args.self.now.book) (output_of c.loop-act.self.book)
    (calls_output c.args.self.now.book c.loop-act.self.book (g.W.Journal.journal c.args.w.now) (g.W.Journal.journal c.loop-act.w) (g.W.Journal.counts c.args.w.now) (g.W.Journal.counts c.loop-act.w) i.calls)
    i.saves c.save_on.ensures.saves

pub returns-in_err-act-clause-goes : goal.returns-in_err-act-clause-goes
returns-in_err-act-clause-goes g c =
    let i = c.loop-act.invariant in
    let e = c.in_err-act.ensures in
    goes_err {q = c.save_on.new.w} {y = c.save_on.new.self} c.from_residual.ensures.1 (record {
      step = record {
        holds = e.holds;
        calm = tt;
        course = λ o s. e.course o (i.course o s);
        calls = λ cast since from s. e.calls cast since from (i.calls cast since from s);
        task = e.task ∙ i.task;
        terms = e.terms ∙ i.terms;
        own = e.own;
        counts = λ o on s h. e.counts o on (i.course o s) (quiet_at o c.loop-act.self c.loop-act.act (g.W.Journal.journal c.loop-act.w) (i.counts o on s h));
      };
      clock = told_then i.reads e.reads (λ x y z v w. since_then v w);
    })

pub returns-in_err-act-clause-stands : goal.returns-in_err-act-clause-stands
returns-in_err-act-clause-stands g c p number =
    let clock = c.args.self.now.clock in
    told_then (c.loop-act.invariant.stands p number) (c.in_err-act.ensures.stands p number)
    (λ x y z first then t. ended_does p number c.args.self.now c.save_on.new.self c.save_on.new.self c.args.act c.from_residual.result _ x z c.from_residual.ensures.1
    (then clock (subst (λ act. StandsTo p number (record c.loop-act.self { clock = clock }) act y) c.in-Save.is (first clock t))) t)

pub returns-in_err-act-clause-unsent : goal.returns-in_err-act-clause-unsent
returns-in_err-act-clause-unsent g c p number =
    told_then (c.loop-act.invariant.stands p number) (c.in_err-act.ensures.stands p number)
    (λ x y z first then none clock t. ended_so p number (record c.save_on.new.self { clock = clock }) c.from_residual.result _ z c.from_residual.ensures.1
    (then clock (subst (λ act. StandsTo p number (record c.loop-act.self { clock = clock }) act y) c.in-Save.is (first clock t))))

pub returns-in_err-act-clause-still : goal.returns-in_err-act-clause-still
returns-in_err-act-clause-still g c e = absurd (busy_save e (sym (c.loop-act.invariant.still e).1 ∙ c.in-Save.is))

pub returns-in_err-act-clause-clock : goal.returns-in_err-act-clause-clock
returns-in_err-act-clause-clock g c = c.in_err-act.ensures.clock ∙ c.loop-act.invariant.clock
