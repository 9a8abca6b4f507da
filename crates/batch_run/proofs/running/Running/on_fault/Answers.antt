use Rattle.std.proofs.Common.{ap, arith, refl, subst}
use Rattle.batch_run.specs.Kept.{LeftBy, IsBroken, goes_on}
use Rattle.batch_run.specs.Owed.{none}
use Rattle.batch_run.specs.Stands.{IsFaultOf, served_by}
use Rattle.batch_run.proofs.KeptLemmas.{kept_start, kept_then}
use Rattle.batch_run.proofs.OweLemmas.{exits, forgets_lines}
use Rattle.batch_run.proofs.running.Running.on_fault.Goals as goal

pub lose_one-requires : goal.lose_one-requires
lose_one-requires g c = (subst (λ f. LeftBy f c.args.self.now.lines.connections) c.in-OfJob.is c.requires).few

pub returns-in_err-lose_one-in-OfJob-clause-stands : goal.returns-in_err-lose_one-in-OfJob-clause-stands
returns-in_err-lose_one-in-OfJob-clause-stands g c = λ asks start from why s.
    exits _ asks start from none c.lose_one.new.self.lines.connections c.from_residual.result c.from_residual.ensures.1
    (c.in_err-lose_one-in-OfJob.ensures.stands none refl refl asks start from (subst (λ f. IsFaultOf f from (g.W.Journal.counts c.args.w.now)) c.in-OfJob.is why) s)

pub returns-in_err-lose_one-in-OfJob-clause-left : goal.returns-in_err-lose_one-in-OfJob-clause-left
returns-in_err-lose_one-in-OfJob-clause-left g c = c.lose_one.ensures.left

pub returns-in_err-leave_over-in-OfJob-clause-stands : goal.returns-in_err-leave_over-in-OfJob-clause-stands
returns-in_err-leave_over-in-OfJob-clause-stands g c = λ asks start from why s.
    exits _ asks start from none c.leave_over.new.self.lines.connections c.from_residual-in_err-leave_over-in-OfJob.result c.from_residual-in_err-leave_over-in-OfJob.ensures.1
    (c.in_err-leave_over-in-OfJob.ensures.stands asks start from (c.in_ok-lose_one-in-OfJob.ensures.stands none refl refl asks start from (subst (λ f. IsFaultOf f from (g.W.Journal.counts c.args.w.now)) c.in-OfJob.is why) s))

pub returns-in_err-leave_over-in-OfJob-clause-left : goal.returns-in_err-leave_over-in-OfJob-clause-left
returns-in_err-leave_over-in-OfJob-clause-left g c = kept_then c.lose_one.ensures.left c.leave_over.ensures.left

pub returns-in_ok-leave_over-in-OfJob-clause-stands : goal.returns-in_ok-leave_over-in-OfJob-clause-stands
returns-in_ok-leave_over-in-OfJob-clause-stands g c = λ asks start from why s.
    c.in_ok-leave_over-in-OfJob.ensures.stands asks start from (c.in_ok-lose_one-in-OfJob.ensures.stands none refl refl asks start from (subst (λ f. IsFaultOf f from (g.W.Journal.counts c.args.w.now)) c.in-OfJob.is why) s)

pub returns-in_ok-leave_over-in-OfJob-clause-left : goal.returns-in_ok-leave_over-in-OfJob-clause-left
returns-in_ok-leave_over-in-OfJob-clause-left g c = kept_then c.lose_one.ensures.left c.leave_over.ensures.left

pub returns-in_ok-leave_over-in-OfJob-clause-goes : goal.returns-in_ok-leave_over-in-OfJob-clause-goes
returns-in_ok-leave_over-in-OfJob-clause-goes g c = λ e. ap goes_on c.in-OfJob.is

pub returns-in_ok-leave_over-in-OfJob-clause-sound : goal.returns-in_ok-leave_over-in-OfJob-clause-sound
returns-in_ok-leave_over-in-OfJob-clause-sound g c = λ e.
    let broken : IsBroken c.in-OfJob.job c.args.self.now.lines.connections = subst (λ f. LeftBy f c.args.self.now.lines.connections) c.in-OfJob.is c.requires in
    c.leave_over.ensures.left.sound (c.in_ok-lose_one-in-OfJob.ensures.sound broken.but)

pub returns-in_ok-leave_over-in-OfJob-clause-linked : goal.returns-in_ok-leave_over-in-OfJob-clause-linked
returns-in_ok-leave_over-in-OfJob-clause-linked g c = λ e.
    let broken : IsBroken c.in-OfJob.job c.args.self.now.lines.connections = subst (λ f. LeftBy f c.args.self.now.lines.connections) c.in-OfJob.is c.requires in
    let less = c.in_ok-lose_one-in-OfJob.ensures.linked broken in
    omega (arith, less, c.leave_over.ensures.left.linked)

pub returns-in_ok-leave_over-in-OfJob-clause-over : goal.returns-in_ok-leave_over-in-OfJob-clause-over
returns-in_ok-leave_over-in-OfJob-clause-over g c = λ e. c.in_ok-leave_over-in-OfJob.ensures.over

pub returns-in_err-lose_all-in-OfAll-clause-stands : goal.returns-in_err-lose_all-in-OfAll-clause-stands
returns-in_err-lose_all-in-OfAll-clause-stands g c = λ asks start from why s.
    exits _ asks start from none c.args.self.now.lines.connections c.from_residual-in_err-lose_all-in-OfAll.result c.from_residual-in_err-lose_all-in-OfAll.ensures.1
    (forgets_lines asks start from none c.args.self.now.lines.connections
    (c.lose_all.ensures.stands asks start (served_by none c.args.self.now.lines.connections from) (g.W.Journal.journal c.args.w.now) (g.W.Journal.counts c.args.w.now) (subst (λ f. IsFaultOf f from (g.W.Journal.counts c.args.w.now)) c.in-OfAll.is why) s))

pub returns-in_err-lose_all-in-OfAll-clause-left : goal.returns-in_err-lose_all-in-OfAll-clause-left
returns-in_err-lose_all-in-OfAll-clause-left g c = kept_start c.args.self.now.lines.connections

pub returns-in_err-leave_all-in-OfAll-clause-stands : goal.returns-in_err-leave_all-in-OfAll-clause-stands
returns-in_err-leave_all-in-OfAll-clause-stands g c = λ asks start from why s.
    exits _ asks start from none c.leave_all.new.self.lines.connections c.from_residual-in_err-leave_all-in-OfAll.result c.from_residual-in_err-leave_all-in-OfAll.ensures.1
    (c.in_err-leave_all-in-OfAll.ensures.stands asks start from
    (c.lose_all.ensures.stands asks start (served_by none c.args.self.now.lines.connections from) (g.W.Journal.journal c.args.w.now) (g.W.Journal.counts c.args.w.now) (subst (λ f. IsFaultOf f from (g.W.Journal.counts c.args.w.now)) c.in-OfAll.is why) s))

pub returns-in_ok-leave_all-in-OfAll-clause-stands : goal.returns-in_ok-leave_all-in-OfAll-clause-stands
returns-in_ok-leave_all-in-OfAll-clause-stands g c = λ asks start from why s.
    c.in_ok-leave_all-in-OfAll.ensures.stands asks start from
    (c.lose_all.ensures.stands asks start (served_by none c.args.self.now.lines.connections from) (g.W.Journal.journal c.args.w.now) (g.W.Journal.counts c.args.w.now) (subst (λ f. IsFaultOf f from (g.W.Journal.counts c.args.w.now)) c.in-OfAll.is why) s)

pub returns-in_err-spend_all-in-Spent-clause-stands : goal.returns-in_err-spend_all-in-Spent-clause-stands
returns-in_err-spend_all-in-Spent-clause-stands g c = λ asks start from why s.
    exits _ asks start from none c.args.self.now.lines.connections c.from_residual-in_err-spend_all-in-Spent.result c.from_residual-in_err-spend_all-in-Spent.ensures.1
    (forgets_lines asks start from none c.args.self.now.lines.connections
    (c.spend_all.ensures.stands asks start (served_by none c.args.self.now.lines.connections from) (g.W.Journal.journal c.args.w.now) (g.W.Journal.counts c.args.w.now) (subst (λ f. IsFaultOf f from (g.W.Journal.counts c.args.w.now)) c.in-Spent.is why) s))

pub returns-in_err-spend_all-in-Spent-clause-left : goal.returns-in_err-spend_all-in-Spent-clause-left
returns-in_err-spend_all-in-Spent-clause-left g c = kept_start c.args.self.now.lines.connections

pub returns-in_err-leave_all-in-Spent-clause-stands : goal.returns-in_err-leave_all-in-Spent-clause-stands
returns-in_err-leave_all-in-Spent-clause-stands g c = λ asks start from why s.
    exits _ asks start from none c.leave_all-in-Spent.new.self.lines.connections c.from_residual-in_err-leave_all-in-Spent.result c.from_residual-in_err-leave_all-in-Spent.ensures.1
    (c.in_err-leave_all-in-Spent.ensures.stands asks start from
    (c.spend_all.ensures.stands asks start (served_by none c.args.self.now.lines.connections from) (g.W.Journal.journal c.args.w.now) (g.W.Journal.counts c.args.w.now) (subst (λ f. IsFaultOf f from (g.W.Journal.counts c.args.w.now)) c.in-Spent.is why) s))

pub returns-in_ok-leave_all-in-Spent-clause-stands : goal.returns-in_ok-leave_all-in-Spent-clause-stands
returns-in_ok-leave_all-in-Spent-clause-stands g c = λ asks start from why s.
    c.in_ok-leave_all-in-Spent.ensures.stands asks start from
    (c.spend_all.ensures.stands asks start (served_by none c.args.self.now.lines.connections from) (g.W.Journal.journal c.args.w.now) (g.W.Journal.counts c.args.w.now) (subst (λ f. IsFaultOf f from (g.W.Journal.counts c.args.w.now)) c.in-Spent.is why) s)
