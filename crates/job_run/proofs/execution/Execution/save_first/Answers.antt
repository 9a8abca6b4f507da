use Rattle.std.proofs.Common.{◌≡◌, refl, arith, ◌∙◌}
use Rattle.job_notebook.specs.State.{output_of}
use Rattle.job_saves.proofs.SessionLemmas.{saves_then}
use Rattle.world.specs.Places.{time}
use Rattle.world.proofs.MomentsLemmas.{told_as, told_both, told_then}
use Rattle.job_journal.specs.Plot.{facts}
use Rattle.job_run.proofs.AskLemmas.{keyed_then, named_then}
use Rattle.job_run.proofs.StandingLemmas.{ended_so}
use Rattle.job_run.proofs.StartLemmas.{begin_saves, none_requested, saved_first, saves_unread}
use Rattle.job_run.proofs.CauseLemmas.{calls_output}
use Rattle.job_run.proofs.CountLemmas.{to_save}
use Rattle.job_run.proofs.StepLemmas.{goes_err, goes_first, goes_reading, goes_told}
use Rattle.job_run.proofs.execution.Execution.save_first.Goals as goal

pub returns-clause-goes : goal.returns-clause-goes
returns-clause-goes g c = goes_reading (goes_told refl refl refl (λ n i. to_save c.args.self.now 0 n i) c.in_ok-act.ensures.goes) c.read_clock.ensures.goes

pub returns-in_err-act-clause-goes : goal.returns-in_err-act-clause-goes
returns-in_err-act-clause-goes g c = goes_first (goes_err c.from_residual.ensures.1 (goes_told refl refl refl (λ n i. to_save c.args.self.now 0 n i) c.in_err-act.ensures.goes))

pub returns-clause-saves : goal.returns-clause-saves
returns-clause-saves g c =
    saves_then (output_of c.args.self.now.book) (output_of c.act.new.self.book)
    (calls_output c.args.self.now.book c.act.new.self.book (g.W.Journal.journal c.args.w.now) (g.W.Journal.journal c.act.new.w) (g.W.Journal.counts c.args.w.now) (g.W.Journal.counts c.act.new.w) c.act.ensures.goes.step.calls)
    c.act.ensures.saves c.read_clock.ensures.saves

pub returns-in_err-act-clause-saves : goal.returns-in_err-act-clause-saves
returns-in_err-act-clause-saves g c = c.act.ensures.saves

pub returns-clause-key : goal.returns-clause-key
returns-clause-key g c = keyed_then c.read_clock.result c.args.self.now c.act.new.self c.read_clock.new.self c.in_ok-act.ensures.asks.key c.read_clock.ensures.key

pub act-requires-clause-todo : goal.act-requires-clause-todo
act-requires-clause-todo g c =
    let f = c.requires.first in
    record {
      was = 0;
      begun = omega (arith, f.begun);
      settled = omega (arith, f.settled);
      sends = (omega arith, omega arith, omega (arith, f.next));
      awaits = f.awaits;
      stops = λ cause is. absurd (cc);
      named = λ is. absurd (cc);
      settles = λ settled is. let same : 0 ≡ settled = cc in f.asks ∙ same;
    }

pub returns-clause-name : goal.returns-clause-name
returns-clause-name g c = named_then c.read_clock.result c.args.self.now c.act.new.self c.read_clock.new.self c.in_ok-act.ensures.asks.name c.read_clock.ensures.name

pub returns-clause-stands : goal.returns-clause-stands
returns-clause-stands g c p number =
    let x = c.args.self.now in
    told_then (told_both c.act.ensures.saves (c.in_ok-act.ensures.unsent p number)) (c.read_clock.ensures.stands p number)
    (λ before mid after so then b.
    let unread = saves_unread (facts p) (output_of x.book) before mid so.0 b.fresh.unread in
    then (saved_first p number x c.act.new.self (output_of x.book) before mid b so.0 c.act.ensures.clock
    (so.1 (none_requested p mid unread) (time before) (begin_saves p number x before b))))

pub returns-in_err-act-clause-stands : goal.returns-in_err-act-clause-stands
returns-in_err-act-clause-stands g c p number =
    let x = c.args.self.now in
    told_as (told_both c.act.ensures.saves (c.in_err-act.ensures.unsent p number))
    (λ before after so b.
    let unread = saves_unread (facts p) (output_of x.book) before after so.0 b.fresh.unread in
    ended_so p number c.act.new.self c.from_residual.result _ after c.from_residual.ensures.1
    (so.1 (none_requested p after unread) (time before) (begin_saves p number x before b)))
