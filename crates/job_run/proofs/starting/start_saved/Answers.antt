use Rattle.std.proofs.Common.{◌≡◌, ap, sym, subst, ◌∙◌}
use Rattle.job_saves.specs.Course.{Stands, stays_open}
use Rattle.job_saves.proofs.CourseLemmas.{job_ends}
use Rattle.job_run.proofs.TurnLemmas.{first_counts, launches_counted, first_ends}
use Rattle.job_run.proofs.RunLemmas.{begun, begun_role}
use Rattle.job_run.proofs.LaunchLemmas.{ends_then, may_later, may_run}
use Rattle.job_saves.specs.Children.{HasEnd}
use Rattle.job_run.specs.Run.{HasNoPorts, HasPorts}
use Rattle.job_run.specs.Task.{ports_of_job, pings_kernel, terms_of_job}
use Rattle.job_run.specs.declared.execution.Execution.{Execution}
use Rattle.job_run.specs.declared.terms.Terms.{Terms}
use Rattle.std.specs.Prelude.{IfOk}
use Rattle.job_run.proofs.CauseLemmas.{causes_stay, own_caused, calls_grow, calls_told, calls_end, calls_ask_none, calls_output}
use Rattle.job_run.proofs.StopLemmas.{starts_by, launches, of_run, at_paths}
use Rattle.cell_core.specs.StandsFor.{task_of}
use Rattle.job_run.specs.Told.{EndsBy}
use Rattle.job_run.proofs.starting.start_saved.Goals as goal
use Rattle.world.proofs.MomentsLemmas.{told_as, told_both, told_then}
use Rattle.std.proofs.lemmas.Result.{IfOk-weaker}
use Rattle.job_notebook.specs.State.{output_of}
use Rattle.job_journal.specs.Plot.{facts}
use Rattle.job_journal.proofs.Acking.{requests_on}
use Rattle.job_run.specs.Beginning.{AsksPorts, SpeaksOn}
use Rattle.job_run.specs.declared.paths.Paths.{Paths}
use Rattle.job_journal.proofs.Breaking.{unread_whole}
use Rattle.job_run.proofs.StartLemmas.{job_begun, none_requested, saves_unread}

pub returns-in-Ok-clause-course : goal.returns-in-Ok-clause-course
returns-in-Ok-clause-course g c o s apart fresh =
    let stands = subst (λ r. Stands o c.save_first.new.self.book (stays_open r) (g.W.Journal.journal c.save_first.new.w) (g.W.Journal.counts c.save_first.new.w)) c.in-Ok.is (c.save_first.ensures.goes.course o s) in
    c.with_kernel.ensures.course o (begun o c.job_of.result c.save_first.new.self c.args.paths _ _ c.job_of.ensures.run c.job_of.ensures.paths c.job_of.ensures.outcome
    stands apart
    (first_counts o c.args.run c.save_first.new.self (g.W.Journal.journal c.args.w.now) (g.W.Journal.journal c.save_first.new.w) c.requires.first.counted fresh (λ new. c.in-Ok.ensures.goes.counts o new.watched s)))

pub returns-in-Ok-clause-calls : goal.returns-in-Ok-clause-calls
returns-in-Ok-clause-calls g c cast since from may portless role s =
    c.with_kernel.ensures.calls cast since from (may_run cast c.args.number c.job_of.result c.args.kernel.now c.args.here.now c.save_first.new.self (g.W.Journal.journal c.save_first.new.w)
    c.job_of.ensures.number c.job_of.ensures.run
    (may_later cast c.args.number c.args.kernel.now c.args.here.now c.args.run c.save_first.new.self (g.W.Journal.journal c.args.w.now) (g.W.Journal.journal c.save_first.new.w)
    (calls_told c.args.run.book c.save_first.new.self.book (g.W.Journal.journal c.args.w.now) (g.W.Journal.journal c.save_first.new.w) (g.W.Journal.counts c.args.w.now) (g.W.Journal.counts c.save_first.new.w) c.save_first.ensures.goes.calls)
    c.save_first.ensures.saves
    (calls_output c.args.run.book c.save_first.new.self.book (g.W.Journal.journal c.args.w.now) (g.W.Journal.journal c.save_first.new.w) (g.W.Journal.counts c.args.w.now) (g.W.Journal.counts c.save_first.new.w) c.save_first.ensures.goes.calls)
    c.in-Ok.ensures.key
    (calls_end c.args.run.book c.save_first.new.self.book (g.W.Journal.journal c.args.w.now) (g.W.Journal.journal c.save_first.new.w) (g.W.Journal.counts c.args.w.now) (g.W.Journal.counts c.save_first.new.w) c.save_first.ensures.goes.calls c.args.number) may))
    (subst (λ n. HasNoPorts cast n (g.W.Journal.journal c.save_first.new.w)) (sym c.job_of.ensures.number)
    (λ e. calls_ask_none c.args.run.book c.save_first.new.self.book (g.W.Journal.journal c.args.w.now) (g.W.Journal.journal c.save_first.new.w) (g.W.Journal.counts c.args.w.now) (g.W.Journal.counts c.save_first.new.w) c.save_first.ensures.goes.calls c.args.number (portless e)))
    (begun_role cast since from c.job_of.result c.save_first.new.self c.args.number c.args.paths _ _ c.job_of.ensures.run c.job_of.ensures.number c.job_of.ensures.paths (c.save_first.ensures.goes.calls cast since from s) role)

pub returns-in-Ok-clause-left : goal.returns-in-Ok-clause-left
returns-in-Ok-clause-left g c = ends_then (λ e h before. subst (λ n. HasEnd n (g.W.Journal.journal c.with_kernel.new.w)) c.job_of.ensures.number h) c.with_kernel.result c.with_kernel.ensures.left

pub returns-in-Err-clause-left : goal.returns-in-Err-clause-left
returns-in-Err-clause-left g c =
    calls_end c.args.run.book c.save_first.new.self.book (g.W.Journal.journal c.args.w.now) (g.W.Journal.journal c.save_first.new.w) (g.W.Journal.counts c.args.w.now) (g.W.Journal.counts c.save_first.new.w) c.save_first.ensures.goes.calls c.args.number

pub returns-in-Err-clause-course : goal.returns-in-Err-clause-course
returns-in-Err-clause-course g c o s apart fresh =
    job_ends o c.save_first.new.self.book _ _ _ (subst (λ r. Stands o c.save_first.new.self.book (stays_open r) (g.W.Journal.journal c.save_first.new.w) (g.W.Journal.counts c.save_first.new.w))
    c.in-Err.is (c.save_first.ensures.goes.course o s))

pub returns-in-Err-clause-calls : goal.returns-in-Err-clause-calls
returns-in-Err-clause-calls g c cast since from may portless role s = (c.save_first.ensures.goes.calls cast since from s).so

pub returns-in-Ok-clause-cause : goal.returns-in-Ok-clause-cause
returns-in-Ok-clause-cause g c =
    causes_stay (g.W.Journal.counts c.args.w.now) (g.W.Journal.counts c.save_first.new.w) (g.W.Journal.counts c.with_kernel.new.w) c.with_kernel.result
    (calls_grow c.args.run.book c.save_first.new.self.book (g.W.Journal.journal c.args.w.now) (g.W.Journal.journal c.save_first.new.w) (g.W.Journal.counts c.args.w.now) (g.W.Journal.counts c.save_first.new.w) c.save_first.ensures.goes.calls) c.with_kernel.ensures.cause

pub returns-in-Err-clause-cause : goal.returns-in-Err-clause-cause
returns-in-Err-clause-cause g c = own_caused (task_of c.save_first.new.self.core) (g.W.Journal.counts c.args.w.now) (g.W.Journal.counts c.save_first.new.w) c.in-Err.end c.in-Err.ensures.goes.own

pub returns-in-Ok-clause-own : goal.returns-in-Ok-clause-own
returns-in-Ok-clause-own g c = launches (task_of c.args.run.core) c.with_kernel.result c.with_kernel.ensures.own

pub returns-in-Err-clause-own : goal.returns-in-Err-clause-own
returns-in-Err-clause-own g c = starts_by (task_of c.args.run.core) c.in-Err.end (subst (λ t. EndsBy t c.in-Err.end) c.save_first.ensures.goes.task c.in-Err.ensures.goes.own)

pub returns-in-Ok-clause-task : goal.returns-in-Ok-clause-task
returns-in-Ok-clause-task g c = of_run c.with_kernel.result c.job_of.result c.save_first.new.self (task_of c.args.run.core) c.job_of.ensures.run c.save_first.ensures.goes.task c.with_kernel.ensures.task

pub returns-in-Ok-clause-output : goal.returns-in-Ok-clause-output
returns-in-Ok-clause-output g c = at_paths c.with_kernel.result c.job_of.result c.args.paths c.job_of.ensures.paths c.with_kernel.ensures.output

pub returns-in-Ok-clause-fresh : goal.returns-in-Ok-clause-fresh
returns-in-Ok-clause-fresh g c = c.with_kernel.ensures.fresh

pub returns-in-Ok-clause-ports : goal.returns-in-Ok-clause-ports
returns-in-Ok-clause-ports g c =
    subst (λ n. IfOk c.with_kernel.result (λ j. HasPorts n (ports_of_job j) (g.W.Journal.journal c.with_kernel.new.w))) c.job_of.ensures.number c.with_kernel.ensures.ports

pub returns-in-Ok-clause-counted : goal.returns-in-Ok-clause-counted
returns-in-Ok-clause-counted g c o s fresh = launches_counted o (task_of c.args.run.core) (g.W.Journal.journal c.with_kernel.new.w) c.with_kernel.result c.with_kernel.ensures.own

pub returns-in-Err-clause-counted : goal.returns-in-Err-clause-counted
returns-in-Err-clause-counted g c o s fresh =
    let f = c.save_first in
    first_ends o c.args.run f.new.self (task_of c.args.run.core) (g.W.Journal.journal c.args.w.now) (g.W.Journal.journal f.new.w) c.in-Err.end f.ensures.goes.task
    c.requires.first.counted fresh (λ new. c.in-Err.ensures.goes.counts o new.watched s)

pub returns-in-Ok-clause-pings : goal.returns-in-Ok-clause-pings
returns-in-Ok-clause-pings g c =
    subst (λ b. IfOk c.with_kernel.result (λ j. pings_kernel j ≡ b))
    (ap (λ (x : Execution). x.terms.heartbeat) c.job_of.ensures.run ∙ ap (λ (t : Terms). t.heartbeat) c.save_first.ensures.goes.terms) c.with_kernel.ensures.pings

pub returns-in-Ok-clause-terms : goal.returns-in-Ok-clause-terms
returns-in-Ok-clause-terms g c =
    subst (λ t. IfOk c.with_kernel.result (λ j. terms_of_job j ≡ t))
    (ap (λ (x : Execution). x.terms) c.job_of.ensures.run ∙ c.save_first.ensures.goes.terms) c.with_kernel.ensures.terms

pub returns-in-Ok-clause-stands : goal.returns-in-Ok-clause-stands
returns-in-Ok-clause-stands g c p =
    told_then (told_both (c.in-Ok.ensures.stands p c.args.number) c.save_first.ensures.saves) (c.with_kernel.ensures.stands p)
    (λ x y z first then output b.
    then (job_begun p c.job_of.result c.args.number c.save_first.new.self y c.job_of.ensures.run c.job_of.ensures.number c.job_of.ensures.outcome b.is_for.number_is
    (ap (λ (q : Paths). q.output) c.job_of.ensures.paths ∙ output) b.fresh.undated (unread_whole p y (saves_unread (facts p) (output_of c.args.run.book) x y first.1 b.fresh.unread)) (first.0 b)))

pub returns-in-Err-clause-stands : goal.returns-in-Err-clause-stands
returns-in-Err-clause-stands g c p = told_as (c.in-Err.ensures.stands p c.args.number) (λ x y first output b. first b)

pub returns-in-Ok-clause-unsent : goal.returns-in-Ok-clause-unsent
returns-in-Ok-clause-unsent g c p =
    told_then c.save_first.ensures.saves (c.with_kernel.ensures.quiet (facts p))
    (λ x y z w v f. requests_on (facts p) y z f.undated v ∙ none_requested p y (saves_unread (facts p) (output_of c.args.run.book) x y w f.unread))

pub returns-in-Err-clause-unsent : goal.returns-in-Err-clause-unsent
returns-in-Err-clause-unsent g c p =
    told_as c.save_first.ensures.saves (λ x y w f. none_requested p y (saves_unread (facts p) (output_of c.args.run.book) x y w f.unread))

pub returns-in-Ok-clause-speaks : goal.returns-in-Ok-clause-speaks
returns-in-Ok-clause-speaks g c =
    IfOk-weaker c.with_kernel.result (SpeaksOn c.job_of.result.run) (SpeaksOn c.args.run)
    (λ j on. record {
      name = on.name ∙ ap (λ (x : Execution). x.session.name) c.job_of.ensures.run ∙ c.in-Ok.ensures.name;
      key = on.key ∙ ap (λ (x : Execution). x.session.key) c.job_of.ensures.run ∙ c.in-Ok.ensures.key;
    }) c.with_kernel.ensures.speaks

pub returns-in-Ok-clause-asks : goal.returns-in-Ok-clause-asks
returns-in-Ok-clause-asks g c =
    IfOk-weaker c.with_kernel.result _ _
    (λ j asks. told_then c.save_first.ensures.saves asks (λ x y z w a. record { asked = y; saves = w; asks = subst (λ n. AsksPorts n y z) c.job_of.ensures.number a })) c.with_kernel.ensures.asks
