use Rattle.std.proofs.Common.{◌≡◌, None, refl, ap, subst}
use Rattle.world.specs.Moments.{start}
use Rattle.world.proofs.MomentsLemmas.{told_start, told_as, told_both, told_then}
use Rattle.job_saves.specs.Reads.{first_of}
use Rattle.job_saves.proofs.TellingLemmas.{lacks_later}
use Rattle.job_begin.specs.Begun.{AnswersAs, without}
use Rattle.job_begin.proofs.BeginLemmas.{told_appends, save_rose, begun_so, disk_calls, disk_keeps_end, disk_asks_none, input_read, answered_role, answered_left}
use Rattle.job_run.specs.Run.{outcome_of, HasPorts}
use Rattle.job_run.specs.Task.{output_of_job, ports_of_job, pings_kernel}
use Rattle.job_run.proofs.LaunchLemmas.{ends_then}
use Rattle.job_begin.proofs.CauseLemmas.{unsaved_caused, all_caused, answer_unspent, starved_unspent, all_unspent}
use Rattle.job_begin.proofs.EndLemmas.{unread_starved, unread_answer, answered_kernel, at_moments, answered_with, answered_end, starved_end, answered_ok, counted}
use Rattle.std.specs.Prelude.{IfErr}
use Rattle.job_end.specs.Answers.{Answers}
use Rattle.words.specs.declared.ask.Ask.{Ask}
use Rattle.job_saves.specs.Speaking.{IsAnswer}
use Rattle.job_begin.proofs.RefusalLemmas.{starved_refuses, input_refuses, begun_refuses}
use Rattle.job_begin.proofs.StandLemmas.{answer_begins, plot_read}
use Rattle.job_begin.proofs.beginning.begin.Goals as goal

pub returns-in_default-clause-begun : goal.returns-in_default-clause-begun
returns-in_default-clause-begun g c = told_start (λ past rested. without refl (unread_starved c.args.ask c.starved.result past c.starved.ensures) start)

-- ---- the input gave no notebook

pub returns-in-Err-clause-begun : goal.returns-in-Err-clause-begun
returns-in-Err-clause-begun g c = told_as (told_both (c.in-Err.ensures.others c.args.ask.output) c.in-Err.ensures.none) (λ x y s rested. without refl (unread_answer c.args.ask c.in-Ok.output c.in-Err.end c.answer.result x y c.answer.ensures s.1) s.0)

pub returns-in-Err-clause-calls : goal.returns-in-Err-clause-calls
returns-in-Err-clause-calls g c cast since from who childless portless lacks so = disk_calls cast since from _ _ _ _ (c.in-Err.ensures.calls cast c.args.number who.has) c.in-Err.ensures.part c.in-Err.ensures.work so

pub returns-in-Err-clause-left : goal.returns-in-Err-clause-left
returns-in-Err-clause-left g c = disk_keeps_end c.args.number _ _ c.in-Err.ensures.part

pub returns-in-Err-clause-cause : goal.returns-in-Err-clause-cause
returns-in-Err-clause-cause g c = unsaved_caused _ _ c.in-Ok.output c.in-Err.end c.answer.result c.answer.ensures c.in-Err.ensures.cause c.in-Err.ensures.unsaved

-- ---- it gave one

pub returns-in-Ok-input_of-clause-begun : goal.returns-in-Ok-input_of-clause-begun
returns-in-Ok-input_of-clause-begun g c =
    let a = c.args.ask in
    let n = c.in-Ok-input_of.notebook in
    let e = c.in-Ok-input_of.ensures in
    let begun = c.begin_with-begun.result in
    let answers : AnswersAs a.output begun c.answer_of.result = subst (λ q. AnswersAs q begun c.answer_of.result) c.in-Ok.ensures c.answer_of.ensures in
    let caused = all_caused _ _ a.output _ begun c.answer_of.result answers e.work.grow c.begin_with-begun.ensures.cause (save_rose a n begun _ _ _ _ _ e.read c.begin_with-begun.ensures.course) in
    let task = answered_with a.output a (first_of a n) begun c.answer_of.result answers c.begin_with-begun.ensures.task in
    let so = c.begin_with-begun.ensures in
    begun_so a n begun _ _ c.args.number c.answer_of.result _ _ _ _ answers caused task (λ x y f g_. answered_kernel a (first_of a n) a.output begun c.answer_of.result x y answers (at_moments a (first_of a n) begun _ _ x y f g_ c.begin_with-begun.ensures.kernel)) e.read (e.others a.output) e.work.grow so.course so.counted (told_appends a c.args.number c.args.here.now begun _ _ _ _ (so.calls (input_read a n _ _ e.read))) so.spoken
    (λ p. told_then (told_both e.part (e.others p.ask.output)) (so.stands p) (λ x y z s t of fresh. answer_begins a.output p begun c.answer_of.result z (ap (λ (q : Ask). q.output) of.ask_is) answers (t (plot_read p c.args.number a n x y of fresh s.0 s.1))))

pub returns-in-Ok-input_of-clause-calls : goal.returns-in-Ok-input_of-clause-calls
returns-in-Ok-input_of-clause-calls g c cast since from who childless portless lacks so =
    let e = c.in-Ok-input_of.ensures in
    let read = input_read c.args.ask c.in-Ok-input_of.notebook _ _ e.read in
    answered_role c.in-Ok.output c.begin_with-begun.result c.answer_of.result c.answer_of.ensures cast since from _ _
    (c.begin_with-begun.ensures.calls read cast since from who (λ clean. disk_keeps_end c.args.number _ _ e.part (childless clean))
    (λ clean. disk_asks_none c.args.number _ _ e.part (portless clean))
    (λ clean. lacks_later c.args.ask.output _ _ (e.others c.args.ask.output) (lacks clean))
    (disk_calls cast since from _ _ _ _ (e.calls cast c.args.number who.has) e.part e.work so))

pub returns-in-Ok-input_of-clause-left : goal.returns-in-Ok-input_of-clause-left
returns-in-Ok-input_of-clause-left g c =
    let e = c.in-Ok-input_of.ensures in
    answered_left c.in-Ok.output _ c.begin_with-begun.result c.answer_of.result c.answer_of.ensures
    (ends_then (λ x keeps h. keeps (disk_keeps_end c.args.number _ _ e.part h)) c.begin_with-begun.result c.begin_with-begun.ensures.left)

pub returns-in-Ok-input_of-clause-cause : goal.returns-in-Ok-input_of-clause-cause
returns-in-Ok-input_of-clause-cause g c =
    let a = c.args.ask in
    let n = c.in-Ok-input_of.notebook in
    let e = c.in-Ok-input_of.ensures in
    let begun = c.begin_with-begun.result in
    all_caused _ _ c.in-Ok.output _ begun c.answer_of.result c.answer_of.ensures e.work.grow c.begin_with-begun.ensures.cause (save_rose a n begun _ _ _ _ _ e.read c.begin_with-begun.ensures.course)

-- ---- the refusal that it names

pub returns-in_default-clause-refused : goal.returns-in_default-clause-refused
returns-in_default-clause-refused g c = told_start (λ past. starved_refuses c.args.ask c.starved.result past past c.starved.ensures)

pub returns-in-Err-clause-refused : goal.returns-in-Err-clause-refused
returns-in-Err-clause-refused g c =
    let answers : Answers c.args.ask.output c.in-Err.end c.answer.result = subst (λ q. Answers q c.in-Err.end c.answer.result) c.in-Ok.ensures c.answer.ensures in
    told_as c.in-Err.ensures.none (λ x y gives. input_refuses c.args.ask c.in-Err.end c.answer.result x y answers gives)

pub returns-in-Ok-input_of-clause-refused : goal.returns-in-Ok-input_of-clause-refused
returns-in-Ok-input_of-clause-refused g c =
    let a = c.args.ask in
    let n = c.in-Ok-input_of.notebook in
    let e = c.in-Ok-input_of.ensures in
    let begun = c.begin_with-begun.result in
    let answers : AnswersAs a.output begun c.answer_of.result = subst (λ q. AnswersAs q begun c.answer_of.result) c.in-Ok.ensures c.answer_of.ensures in
    begun_refuses a n begun c.answer_of.result _ _ _ answers (λ x y f g_. at_moments a (first_of a n) begun _ _ x y f g_ c.begin_with-begun.ensures.kernel) e.read
    (told_appends a c.args.number c.args.here.now begun _ _ _ _ (c.begin_with-begun.ensures.calls (input_read a n _ _ e.read)))

-- ---- its answer, its output and its counts

pub returns-in_default-clause-answer : goal.returns-in_default-clause-answer
returns-in_default-clause-answer g c = starved_end c.args.ask.output c.starved.result c.starved.ensures

pub returns-in-Err-clause-answer : goal.returns-in-Err-clause-answer
returns-in-Err-clause-answer g c = subst (λ q. IsAnswer q c.answer.result) c.in-Ok.ensures (∣ record { end = c.in-Err.end; answers = c.answer.ensures } ∣₁)

pub returns-in-Ok-input_of-clause-answer : goal.returns-in-Ok-input_of-clause-answer
returns-in-Ok-input_of-clause-answer g c = subst (λ q. IfErr c.answer_of.result (IsAnswer q)) c.in-Ok.ensures (answered_end c.in-Ok.output c.begin_with-begun.result c.answer_of.result c.answer_of.ensures)

pub returns-in-Ok-input_of-clause-output : goal.returns-in-Ok-input_of-clause-output
returns-in-Ok-input_of-clause-output g c = answered_ok c.in-Ok.output (λ j. output_of_job j ≡ c.args.ask.output) c.begin_with-begun.result c.answer_of.result c.answer_of.ensures c.begin_with-begun.ensures.output

pub returns-in-Ok-input_of-clause-runs : goal.returns-in-Ok-input_of-clause-runs
returns-in-Ok-input_of-clause-runs g c =
    let e = c.in-Ok-input_of.ensures in
    counted c.in-Ok.output c.args.ask c.in-Ok-input_of.notebook c.begin_with-begun.result c.answer_of.result _ _ _ _ _ c.answer_of.ensures e.work.grow c.begin_with-begun.ensures.course

pub returns-in-Ok-input_of-clause-fresh : goal.returns-in-Ok-input_of-clause-fresh
returns-in-Ok-input_of-clause-fresh g c = answered_ok c.in-Ok.output (λ j. outcome_of j ≡ None) c.begin_with-begun.result c.answer_of.result c.answer_of.ensures c.begin_with-begun.ensures.fresh

-- ---- it is not out of waits

pub returns-in_default-clause-spent : goal.returns-in_default-clause-spent
returns-in_default-clause-spent g c = starved_unspent (g.W.Journal.counts c.args.w.now) (g.W.Journal.counts c.args.w.now) c.starved.result c.starved.ensures

pub returns-in-Err-clause-spent : goal.returns-in-Err-clause-spent
returns-in-Err-clause-spent g c = answer_unspent (g.W.Journal.counts c.args.w.now) (g.W.Journal.counts c.input_of.new.w) c.in-Ok.output c.in-Err.end c.answer.result c.answer.ensures c.in-Err.ensures.cause

pub returns-in-Ok-input_of-clause-spent : goal.returns-in-Ok-input_of-clause-spent
returns-in-Ok-input_of-clause-spent g c = all_unspent (g.W.Journal.counts c.input_of.new.w) (g.W.Journal.counts c.begin_with-begun.new.w) c.in-Ok.output c.begin_with-begun.result c.answer_of.result c.answer_of.ensures c.begin_with-begun.ensures.cause

pub returns-in-Ok-input_of-clause-ports : goal.returns-in-Ok-input_of-clause-ports
returns-in-Ok-input_of-clause-ports g c =
    answered_ok c.in-Ok.output (λ j. HasPorts c.args.number (ports_of_job j) (g.W.Journal.journal c.begin_with-begun.new.w)) c.begin_with-begun.result c.answer_of.result c.answer_of.ensures c.begin_with-begun.ensures.ports

pub returns-in-Ok-input_of-clause-pings : goal.returns-in-Ok-input_of-clause-pings
returns-in-Ok-input_of-clause-pings g c =
    answered_ok c.in-Ok.output (λ j. pings_kernel j ≡ c.args.ask.heartbeat) c.begin_with-begun.result c.answer_of.result c.answer_of.ensures c.begin_with-begun.ensures.pings
