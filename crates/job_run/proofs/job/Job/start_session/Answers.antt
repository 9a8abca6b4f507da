use Rattle.std.proofs.Common.{◌≡◌, ap, sym, subst, ◌∙◌}
use Rattle.words.specs.declared.ask.Ask.{Ask}
use Rattle.job_run.proofs.EndLemmas.{starved_so}
use Rattle.job_run.proofs.SpeakLemmas.{session_spoken}
use Rattle.std.proofs.lemmas.Result.{IfOk-at_ok, IfOk-weaker}
use Rattle.job_run.proofs.BeginLemmas.{stands_first, part_first, cells_first, apart_first, ends_unsaved}
use Rattle.std.specs.Prelude.{IfOk, IfErr}
use Rattle.job_run.specs.Task.{task_of_job, output_of_job, pings_kernel, task_for, AreTermsOf}
use Rattle.job_end.specs.declared.end.End.TheVariants as end
use Rattle.job_run.specs.Run.{StartsCounted}
use Rattle.job_run.specs.Told.{StartsBy}
use Rattle.job_run.proofs.TurnLemmas.{launch_counted}
use Rattle.job_run.proofs.job.Job.start_session.Goals as goal
use Rattle.world.proofs.MomentsLemmas.{told_as, told_both, told_start}
use Rattle.job_run.proofs.StartLemmas.{fresh_ends, in_session, starts_as}

pub returns-in-Ok-clause-course : goal.returns-in-Ok-clause-course
returns-in-Ok-clause-course g c o for b fresh =
    let e = c.parts_of.ensures in
    let is = c.in-Ok.is in
    c.start_saved.ensures.course o
    (stands_first c.in-Ok.run'.book c.args.ask.output c.args.ask.merge c.args.agenda.notebook o _ _
    (IfOk-at_ok _ is e.output) (IfOk-at_ok _ is e.merge) (IfOk-at_ok _ is e.keeps) for b)
    (apart_first c.in-Ok.paths.connection c.args.ask.output o.output (IfOk-at_ok _ is e.connection) for.output_is) fresh

pub returns-in-Ok-clause-calls : goal.returns-in-Ok-clause-calls
returns-in-Ok-clause-calls g c cast since from who kernel drawn childless portless reads u =
    let e = c.parts_of.ensures in
    let is = c.in-Ok.is in
    c.start_saved.ensures.calls cast since from (record {
      ask = c.args.ask;
      cast = who;
      kernel_is = kernel;
      childless = childless;
      pairs = c.args.pairs;
      words = record { output_is = IfOk-at_ok _ is e.output; key_is = IfOk-at_ok _ is e.key };
      drawn = drawn;
    }) portless
    (record { ask = c.args.ask; has = who.has; connection = IfOk-at_ok _ is e.connection; folder = IfOk-at_ok _ is e.folder })
    (part_first c.in-Ok.run'.book c.args.ask c.args.agenda.notebook cast c.args.number since from _ _ (IfOk-at_ok _ is e.output) (IfOk-at_ok _ is e.merge)
    (cells_first c.in-Ok.run' c.args.ask c.args.agenda.notebook (IfOk-at_ok _ is e.first) (IfOk-at_ok _ is e.task)) (IfOk-at_ok _ is e.keeps) who.has reads u)

pub returns-in-Ok-clause-left : goal.returns-in-Ok-clause-left
returns-in-Ok-clause-left g c = c.start_saved.ensures.left

pub returns-in-Err-clause-left : goal.returns-in-Err-clause-left
returns-in-Err-clause-left g c = λ h. h

pub returns-in-Err-clause-course : goal.returns-in-Err-clause-course
returns-in-Err-clause-course g c o for b fresh = ends_unsaved o _ _ b

pub returns-in-Err-clause-calls : goal.returns-in-Err-clause-calls
returns-in-Err-clause-calls g c cast since from who kernel drawn childless portless reads u = u

pub returns-in-Ok-clause-cause : goal.returns-in-Ok-clause-cause
returns-in-Ok-clause-cause g c = c.start_saved.ensures.cause

pub returns-in-Ok-clause-own : goal.returns-in-Ok-clause-own
returns-in-Ok-clause-own g c = subst (λ t. IfErr c.start_saved.result (StartsBy t)) (IfOk-at_ok _ c.in-Ok.is c.parts_of.ensures.task) c.start_saved.ensures.own

pub returns-in-Ok-clause-task : goal.returns-in-Ok-clause-task
returns-in-Ok-clause-task g c = subst (λ t. IfOk c.start_saved.result (λ j. task_of_job j ≡ t)) (IfOk-at_ok _ c.in-Ok.is c.parts_of.ensures.task) c.start_saved.ensures.task

pub returns-in-Ok-clause-output : goal.returns-in-Ok-clause-output
returns-in-Ok-clause-output g c = subst (λ t. IfOk c.start_saved.result (λ j. output_of_job j ≡ t)) (IfOk-at_ok _ c.in-Ok.is c.parts_of.ensures.paths) c.start_saved.ensures.output

pub returns-in-Ok-clause-fresh : goal.returns-in-Ok-clause-fresh
returns-in-Ok-clause-fresh g c = c.start_saved.ensures.fresh

pub returns-in-Ok-clause-ports : goal.returns-in-Ok-clause-ports
returns-in-Ok-clause-ports g c = c.start_saved.ensures.ports

pub returns-in-Ok-clause-counted : goal.returns-in-Ok-clause-counted
returns-in-Ok-clause-counted g c o for b fresh =
    let e = c.parts_of.ensures in
    let is = c.in-Ok.is in
    subst (λ t. IfErr c.start_saved.result (StartsCounted o t (g.W.Journal.journal c.start_saved.new.w))) (IfOk-at_ok _ is e.task)
    (c.start_saved.ensures.counted o
    (stands_first c.in-Ok.run'.book c.args.ask.output c.args.ask.merge c.args.agenda.notebook o _ _
    (IfOk-at_ok _ is e.output) (IfOk-at_ok _ is e.merge) (IfOk-at_ok _ is e.keeps) for b) fresh)

pub returns-in-Err-clause-counted : goal.returns-in-Err-clause-counted
returns-in-Err-clause-counted g c o for b fresh = launch_counted o (task_for c.args.ask c.args.agenda.notebook) (g.W.Journal.journal c.args.w.now) end.NoMemory tt

pub returns-in-Ok-clause-pings : goal.returns-in-Ok-clause-pings
returns-in-Ok-clause-pings g c = subst (λ b. IfOk c.start_saved.result (λ j. pings_kernel j ≡ b)) (IfOk-at_ok _ c.in-Ok.is c.parts_of.ensures.terms).pings c.start_saved.ensures.pings

pub returns-in-Ok-clause-terms : goal.returns-in-Ok-clause-terms
returns-in-Ok-clause-terms g c =
    IfOk-weaker c.start_saved.result _ _ (λ j is. subst (AreTermsOf c.args.ask) (sym is) (IfOk-at_ok _ c.in-Ok.is c.parts_of.ensures.terms)) c.start_saved.ensures.terms

pub returns-in-Ok-clause-stands : goal.returns-in-Ok-clause-stands
returns-in-Ok-clause-stands g c p =
    let e = c.parts_of.ensures in
    let is = c.in-Ok.is in
    let x = c.in-Ok.run' in
    let s = c.start_saved in
    told_as (told_both (told_both (s.ensures.stands p) (s.ensures.stands (in_session p x))) (told_both (s.ensures.unsent p) (s.ensures.unsent (in_session p x))))
    (λ before after so plot fresh.
    starts_as p c.args.number c.args.ask c.args.agenda.notebook x before after s.result plot fresh (IfOk-at_ok _ is e.unbegun) (IfOk-at_ok _ is e.output) (IfOk-at_ok _ is e.merge) (IfOk-at_ok _ is e.task)
    (IfOk-at_ok _ is e.terms) s.ensures.speaks
    (so.0.0 (IfOk-at_ok _ is e.paths ∙ ap (λ (a : Ask). a.output) (sym plot.ask_is))) (so.0.1 (IfOk-at_ok _ is e.paths ∙ ap (λ (a : Ask). a.output) (sym plot.ask_is))) so.1.0 so.1.1)

pub returns-in-Err-clause-stands : goal.returns-in-Err-clause-stands
returns-in-Err-clause-stands g c p = told_start (λ now plot fresh. starved_so p now (fresh_ends p now fresh))

pub returns-in-Ok-clause-spoken : goal.returns-in-Ok-clause-spoken
returns-in-Ok-clause-spoken g c =
    let e = c.parts_of.ensures in
    let is = c.in-Ok.is in
    session_spoken (g.W.Journal.journal c.args.w.now) (g.W.Journal.journal c.start_saved.new.w) c.args.number c.args.ask.output c.args.pairs c.in-Ok.run' c.start_saved.result (IfOk-at_ok _ is e.output) (IfOk-at_ok _ is e.name) (IfOk-at_ok _ is e.key) c.start_saved.ensures.speaks
    c.start_saved.ensures.asks
