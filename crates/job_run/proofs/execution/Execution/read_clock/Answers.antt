use Rattle.std.proofs.Common.{true, refl, ap, subst, sym}
use Rattle.world.proofs.CountsLemmas.{moment_grows}
use Rattle.world.proofs.MomentsLemmas.{tells_as, told_then}
use Rattle.job_run.specs.Standing.{Stands}
use Rattle.job_run.proofs.ClockLemmas.{passes_on}
use Rattle.job_run.proofs.StartLemmas.{clock_read}
use Rattle.world.specs.Moments.{start, more as later}
use Rattle.job_saves.proofs.SessionLemmas.{saves_then}
use Rattle.job_run.proofs.AskLemmas.{keyed_then, named_then}
use Rattle.job_saves.proofs.CourseLemmas.{others_pass}
use Rattle.job_run.proofs.RunLemmas.{told_spares, entry_called}
use Rattle.job_run.proofs.WorkLemmas.{moment_works}
use Rattle.job_run.proofs.PartLemmas.{clock_quiet}
use Rattle.job_run.proofs.CountLemmas.{counts_passed, later_counts}
use Rattle.job_run.proofs.StepLemmas.{goes_first, goes_told}
use Rattle.cell_core.specs.declared.act.Act.TheVariants.{Nothing}
use Rattle.cell_core.specs.StandsFor.{task_of}
use Rattle.job_notebook.specs.State.{output_of}
use Rattle.job_run.proofs.execution.Execution.read_clock.Goals as goal

pub returns-clause-goes : goal.returns-clause-goes
returns-clause-goes g c =
    let x = c.args.self.now in
    let m = c.now-ms.ensures in
    let t = c.turn_clock in
    let rest = goes_first (goes_told {x = x} t.ensures.book (ap task_of t.ensures.core) t.ensures.terms (λ n i. later_counts x t.new.self n t.ensures.core t.ensures.later t.ensures.broken i) c.hear_clock.ensures.goes) in
    record {
      holds = rest.holds;
      calm = rest.calm;
      course = λ o s. rest.course o (others_pass o x.book true _ _ _ _ (told_spares o.output _ _ _ refl m.tells) (moment_grows m.later m.counts) s);
      calls = λ cast since from s. rest.calls cast since from
          (entry_called cast since from x.book _ _ _ _ _ (λ past. record { number = s.number; ask = s.ask; has = s.has; is = tt }) clock_quiet (λ past. tt) m.tells (moment_works m.later m.counts) s);
      task = rest.task;
      terms = rest.terms;
      own = rest.own;
      counts = λ o on s h. rest.counts o on (others_pass o x.book true _ _ _ _ (told_spares o.output _ _ _ refl m.tells) (moment_grows m.later m.counts) s)
          (counts_passed o x Nothing (g.W.Journal.journal c.args.w.now) (g.W.Journal.journal c.now-ms.new.self) _ (λ past. refl) (λ past. refl) m.tells h);
    }

pub returns-clause-saves : goal.returns-clause-saves
returns-clause-saves g c =
    saves_then (output_of c.args.self.now.book) (output_of c.turn_clock.new.self.book) (ap output_of c.turn_clock.ensures.book) (tells_as c.now-ms.ensures.tells (λ past. later start tt))
    c.hear_clock.ensures.saves

pub returns-clause-key : goal.returns-clause-key
returns-clause-key g c =
    keyed_then c.hear_clock.result c.args.self.now c.turn_clock.new.self c.hear_clock.new.self (ap (λ s. s.key) c.turn_clock.ensures.session) c.hear_clock.ensures.key

pub returns-clause-name : goal.returns-clause-name
returns-clause-name g c =
    named_then c.hear_clock.result c.args.self.now c.turn_clock.new.self c.hear_clock.new.self (ap (λ s. s.name) c.turn_clock.ensures.session) c.hear_clock.ensures.name

pub returns-clause-stands : goal.returns-clause-stands
returns-clause-stands g c p number =
    let t = c.turn_clock in
    told_then c.now-ms.ensures.tells (c.hear_clock.ensures.passes p number)
    (λ x y z is pass h.
    passes_on p number t.new.self c.hear_clock.new.self c.hear_clock.result y z pass
    (subst (Stands p number t.new.self) (sym is) (clock_read p number c.args.self.now t.new.self c.now-ms.result x h t.ensures.rest t.ensures.turns)))
