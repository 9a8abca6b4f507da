use Rattle.std.proofs.Common.{arith, refl, sym, ◌∙◌}
use Rattle.batch_run.proofs.KeptLemmas.{kept_start}
use Rattle.batch_run.proofs.SlotLemmas.{over_within}
use Rattle.batch_run.proofs.running.Running.leave_where.Goals as goal

pub leave-requires : goal.leave-requires
leave-requires g c =
    let low = over_within c.args.self.now.jobs.slots.items c.args.number (sym c.is_over.ensures ∙ c.if-is_over.true) in
    omega (arith, low, c.args.self.now.jobs.few)

pub returns-then-is_over-clause-stands : goal.returns-then-is_over-clause-stands
returns-then-is_over-clause-stands g c = c.leave.ensures.stands

pub returns-then-is_over-clause-left : goal.returns-then-is_over-clause-left
returns-then-is_over-clause-left g c = c.leave.ensures.left.kept

pub returns-then-is_over-clause-others : goal.returns-then-is_over-clause-others
returns-then-is_over-clause-others g c = c.leave.ensures.others

pub returns-then-is_over-clause-over : goal.returns-then-is_over-clause-over
returns-then-is_over-clause-over g c = c.leave.ensures.over

pub returns-else-is_over-clause-stands : goal.returns-else-is_over-clause-stands
returns-else-is_over-clause-stands g c = λ o waits bare asks start from s. s

pub returns-else-is_over-clause-left : goal.returns-else-is_over-clause-left
returns-else-is_over-clause-left g c = kept_start c.args.self.now.lines.connections

pub returns-else-is_over-clause-others : goal.returns-else-is_over-clause-others
returns-else-is_over-clause-others g c = λ k ne. refl

pub returns-else-is_over-clause-over : goal.returns-else-is_over-clause-over
returns-else-is_over-clause-over g c = sym c.is_over.ensures ∙ c.if-is_over.false
