use Rattle.std.proofs.Common.{refl, rules, ◌∙◌}
use Rattle.job_run.specs.Held.{Holds}
use Rattle.job_run.proofs.StepLemmas.{goes_err, goes_kept, goes_starved, goes_then}
use Rattle.world.proofs.MomentsLemmas.{told_as, told_both, told_start, told_then}
use Rattle.job_journal.specs.Plot.{facts}
use Rattle.job_run.proofs.BrokenLemmas.{breaks_on, got_breaks, got_faulty, not_ok}
use Rattle.job_run.proofs.CauseLemmas.{calls_got_none}
use Rattle.job_run.proofs.PieceLemmas.{got_ends, has_fed}
use Rattle.job_run.proofs.StandingLemmas.{ended_so}
use Rattle.job_run.proofs.execution.Execution.on_piece.Goals as goal

pub returns-in-Ok-clause-goes : goal.returns-in-Ok-clause-goes
returns-in-Ok-clause-goes g c = goes_kept refl (record { core = refl; clock = refl; broken = refl; terms = refl }) (goes_then c.in-Ok.ensures.goes c.on_fault.ensures.goes)

pub returns-in-Err-clause-goes : goal.returns-in-Err-clause-goes
returns-in-Err-clause-goes g c = goes_kept refl (record { core = refl; clock = refl; broken = refl; terms = refl }) c.in-Err.ensures.goes

pub returns-in-Ok-clause-stands : goal.returns-in-Ok-clause-stands
returns-in-Ok-clause-stands g c p number =
    let f = c.feed.ensures in
    told_then
    (told_both (c.in-Ok.ensures.stands p number)
    (calls_got_none c.args.self.now.book c.on_bodies.new.self.book (g.W.Journal.journal c.args.w.now) (g.W.Journal.journal c.on_bodies.new.w) (g.W.Journal.counts c.args.w.now) (g.W.Journal.counts c.on_bodies.new.w)
    c.in-Ok.ensures.goes.step.calls (facts p)))
    (c.on_fault.ensures.stands p number)
    (λ x y z first then got.
    then
    (breaks_on (facts p) c.args.chan c.in_ok-bodies.fault x y first.1
    (got_breaks p number c.args.self.now c.args.chan c.args.piece.now c.in_ok-bodies.bodies c.in_ok-bodies.fault x c.in_ok-bodies.ensures.brings got))
    (first.0 (has_fed p number c.args.self.now c.feed.new.self c.args.chan c.args.piece.now _ _ x f.others f.role c.in_ok-bodies.ensures.stands c.in_ok-bodies.ensures.brings got)))

pub returns-in-Err-clause-stands : goal.returns-in-Err-clause-stands
returns-in-Err-clause-stands g c p number =
    let f = c.feed.ensures in
    told_as (c.in-Err.ensures.stands p number)
    (λ x z first got.
    first (has_fed p number c.args.self.now c.feed.new.self c.args.chan c.args.piece.now _ _ x f.others f.role c.in_ok-bodies.ensures.stands c.in_ok-bodies.ensures.brings got))

pub returns-in_err-bodies-clause-stands : goal.returns-in_err-bodies-clause-stands
returns-in_err-bodies-clause-stands g c p number =
    told_start (λ now got.
    ended_so p number _ c.from_residual.result _ now c.from_residual.ensures.1 (got_ends p number c.args.self.now c.args.chan c.args.piece.now now got))

pub returns-in_err-bodies-clause-goes : goal.returns-in_err-bodies-clause-goes
returns-in_err-bodies-clause-goes g c =
    let h : Holds (record c.args.self.now { lines = c.feed.new.self }) = search rules in
    goes_kept refl (record { core = refl; clock = refl; broken = refl; terms = refl }) (goes_err c.from_residual.ensures.1 (goes_starved h))

pub returns-in-Ok-clause-ends : goal.returns-in-Ok-clause-ends
returns-in-Ok-clause-ends g c p number =
    let x = c.args.self.now in
    let y = c.on_bodies.new.self in
    let f = c.feed.ensures in
    let at = g.W.Journal.journal c.on_bodies.new.w in
    told_then
    (told_both (c.in-Ok.ensures.stands p number)
    (calls_got_none x.book y.book (g.W.Journal.journal c.args.w.now) at (g.W.Journal.counts c.args.w.now) (g.W.Journal.counts c.on_bodies.new.w) c.in-Ok.ensures.goes.step.calls (facts p)))
    (told_both (c.on_fault.ensures.ends p number)
    (calls_got_none y.book c.on_fault.new.self.book at (g.W.Journal.journal c.on_fault.new.w) (g.W.Journal.counts c.on_bodies.new.w) (g.W.Journal.counts c.on_fault.new.w) c.on_fault.ensures.goes.step.calls (facts p)))
    (λ before mid after first then got some.
    then.0
    (breaks_on (facts p) c.args.chan c.in_ok-bodies.fault before mid first.1
    (got_breaks p number x c.args.chan c.args.piece.now c.in_ok-bodies.bodies c.in_ok-bodies.fault before c.in_ok-bodies.ensures.brings got))
    (first.0 (has_fed p number x c.feed.new.self c.args.chan c.args.piece.now _ _ before f.others f.role c.in_ok-bodies.ensures.stands c.in_ok-bodies.ensures.brings got))
    (got_faulty p number x c.args.chan c.args.piece.now c.in_ok-bodies.bodies c.in_ok-bodies.fault before c.in_ok-bodies.ensures.brings got after (then.1 c.args.chan ∙ first.1 c.args.chan) some))

pub returns-in-Err-clause-ends : goal.returns-in-Err-clause-ends
returns-in-Err-clause-ends g c p number = told_as (c.in-Err.ensures.stands p number) (λ before after so got some. tt)

pub returns-in_err-bodies-clause-ends : goal.returns-in_err-bodies-clause-ends
returns-in_err-bodies-clause-ends g c p number = told_start (λ now got some. not_ok c.from_residual.result _ c.from_residual.ensures.1)
