use Rattle.std.proofs.Common.{true, ◌≡◌, sym, subst}
use Rattle.std.proofs.lemmas.Result.{IfOk-weaker}
use Rattle.job_run.proofs.EndLemmas.{unstarted_so}
use Rattle.job_saves.specs.Course.{Ends, keeps_open, stays_open}
use Rattle.job_saves.proofs.CourseLemmas.{begins_pass, calls_on}
use Rattle.job_run.proofs.TurnLemmas.{new_passes, begins_rested, launch_counted}
use Rattle.job_run.proofs.StopLemmas.{launch_starts}
use Rattle.job_run.proofs.BeginLemmas.{ends_unsaved}
use Rattle.job_saves.proofs.KeptLemmas.{part_quiet, part_keeps_end, part_asks_none}
use Rattle.job_saves.proofs.LaunchLemmas.{words_called}
use Rattle.job_saves.proofs.SessionLemmas.{words_drawn}
use Rattle.job_saves.proofs.TellingLemmas.{only_later}
use Rattle.job_saves.proofs.ReadLemmas.{told_kernel}
use Rattle.job_run.proofs.LaunchLemmas.{ends_then}
use Rattle.job_run.proofs.CauseLemmas.{causes_stay}
use Rattle.job_run.specs.Task.{task_for}
use Rattle.job_run.proofs.PartLemmas.{rand_quiet, rand_childless, rand_portless}
use Rattle.job_run.proofs.job.Job.start.Goals as goal
use Rattle.world.proofs.MomentsLemmas.{told_as, told_then}
use Rattle.job_run.proofs.StartLemmas.{fresh_ends, fresh_on}

pub returns-in-Ok-clause-course : goal.returns-in-Ok-clause-course
returns-in-Ok-clause-course g c o for b fresh =
    let j = g.W.Journal.journal c.args.w.now in
    c.start_session.ensures.course o for (begins_pass o _ _ _ _ (c.draw_pairs.ensures.others o.output) c.draw_pairs.ensures.work.grow b)
    (new_passes o j (g.W.Journal.journal c.draw_pairs.new.w) (begins_rested o j (g.W.Journal.counts c.args.w.now) b) (c.draw_pairs.ensures.others o.output) fresh)

pub returns-in-Ok-clause-calls : goal.returns-in-Ok-clause-calls
returns-in-Ok-clause-calls g c cast since from who kernel childless portless reads u =
    let j = g.W.Journal.journal c.args.w.now in
    let k = g.W.Journal.journal c.draw_pairs.new.w in
    c.start_session.ensures.calls cast since from who (told_kernel c.args.ask c.args.kernel.now j k c.draw_pairs.ensures.part kernel)
    (words_drawn c.args.ask.output c.in-Ok.pairs j k c.in-Ok.ensures.words)
    (λ e. part_keeps_end c.args.number j k rand_childless c.draw_pairs.ensures.part (childless e)) (λ e. part_asks_none c.args.number j k rand_portless c.draw_pairs.ensures.part (portless e))
    (λ e. only_later c.args.ask c.args.agenda.notebook j k (c.draw_pairs.ensures.others c.args.ask.output) (reads e))
    (calls_on cast since from _ _ _ _ (words_called cast c.args.number c.args.ask who.has c.draw_pairs.ensures.part) (part_quiet rand_quiet c.draw_pairs.ensures.part) c.draw_pairs.ensures.work u)

pub returns-in-Ok-clause-left : goal.returns-in-Ok-clause-left
returns-in-Ok-clause-left g c = ends_then (λ e keeps before. keeps (part_keeps_end c.args.number (g.W.Journal.journal c.args.w.now) (g.W.Journal.journal c.draw_pairs.new.w) rand_childless c.draw_pairs.ensures.part before)) c.start_session.result c.start_session.ensures.left

pub returns-in-Err-clause-left : goal.returns-in-Err-clause-left
returns-in-Err-clause-left g c = part_keeps_end c.args.number (g.W.Journal.journal c.args.w.now) (g.W.Journal.journal c.draw_pairs.new.w) rand_childless c.draw_pairs.ensures.part

pub returns-in-Err-clause-course : goal.returns-in-Err-clause-course
returns-in-Err-clause-course g c o for b fresh =
    let kept : keeps_open c.in-Err.end ≡ true = subst (λ q. stays_open q ≡ true) c.in-Err.is c.draw_pairs.ensures.saved in
    subst (λ q. Ends o q (g.W.Journal.journal c.draw_pairs.new.w) (g.W.Journal.counts c.draw_pairs.new.w)) (sym kept)
    (ends_unsaved o _ _ (begins_pass o _ _ _ _ (c.draw_pairs.ensures.others o.output) c.draw_pairs.ensures.work.grow b))

pub returns-in-Err-clause-calls : goal.returns-in-Err-clause-calls
returns-in-Err-clause-calls g c cast since from who kernel childless portless reads u =
    calls_on cast since from _ _ _ _ (words_called cast c.args.number c.args.ask who.has c.draw_pairs.ensures.part) (part_quiet rand_quiet c.draw_pairs.ensures.part) c.draw_pairs.ensures.work u

pub returns-in-Ok-clause-cause : goal.returns-in-Ok-clause-cause
returns-in-Ok-clause-cause g c = causes_stay (g.W.Journal.counts c.args.w.now) (g.W.Journal.counts c.draw_pairs.new.w) (g.W.Journal.counts c.start_session.new.w) c.start_session.result c.draw_pairs.ensures.work.grow c.start_session.ensures.cause

pub returns-in-Err-clause-cause : goal.returns-in-Err-clause-cause
returns-in-Err-clause-cause g c = c.in-Err.ensures.cause

pub returns-in-Err-clause-own : goal.returns-in-Err-clause-own
returns-in-Err-clause-own g c = launch_starts (task_for c.args.ask c.args.agenda.notebook) c.in-Err.end c.in-Err.ensures.own

pub returns-in-Ok-clause-counted : goal.returns-in-Ok-clause-counted
returns-in-Ok-clause-counted g c o for b fresh =
    let j = g.W.Journal.journal c.args.w.now in
    c.start_session.ensures.counted o for (begins_pass o _ _ _ _ (c.draw_pairs.ensures.others o.output) c.draw_pairs.ensures.work.grow b)
    (new_passes o j (g.W.Journal.journal c.draw_pairs.new.w) (begins_rested o j (g.W.Journal.counts c.args.w.now) b) (c.draw_pairs.ensures.others o.output) fresh)

pub returns-in-Err-clause-counted : goal.returns-in-Err-clause-counted
returns-in-Err-clause-counted g c o for b fresh =
    launch_counted o (task_for c.args.ask c.args.agenda.notebook) (g.W.Journal.journal c.draw_pairs.new.w) c.in-Err.end c.in-Err.ensures.own

pub returns-in-Ok-clause-ports : goal.returns-in-Ok-clause-ports
returns-in-Ok-clause-ports g c = c.start_session.ensures.ports

pub returns-in-Ok-clause-stands : goal.returns-in-Ok-clause-stands
returns-in-Ok-clause-stands g c p =
    told_then c.draw_pairs.ensures.part (c.start_session.ensures.stands p) (λ x y z w so plot fresh. so plot (fresh_on p x y w fresh))

pub returns-in-Err-clause-stands : goal.returns-in-Err-clause-stands
returns-in-Err-clause-stands g c p = told_as c.draw_pairs.ensures.part (λ x y w plot fresh. unstarted_so p c.in-Err.end y c.in-Err.ensures.own (fresh_ends p y (fresh_on p x y w fresh)))

pub returns-in-Ok-clause-spoken : goal.returns-in-Ok-clause-spoken
returns-in-Ok-clause-spoken g c =
    IfOk-weaker c.start_session.result _ _ (λ j spoken. told_then c.in-Ok.ensures.words spoken (λ x y z draws so. so x draws)) c.start_session.ensures.spoken
