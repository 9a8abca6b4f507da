use Rattle.std.proofs.Common.{ap, sym, ◌∙◌}
use Rattle.std.proofs.lemmas.Bool.{false≢true}
use Rattle.batch_run.specs.Owed.{may_wait}
use Rattle.batch_run.proofs.SlotLemmas.{runs_over}
use Rattle.batch_run.proofs.jobs.Jobs.abandon.Goals as goal

pub returns-then-is_over-clause-stands : goal.returns-then-is_over-clause-stands
returns-then-is_over-clause-stands g c = λ asks start from unknown_is closed s. c.finish.ensures.stands asks start from (ap may_wait unknown_is) closed s

pub returns-then-is_over-clause-said : goal.returns-then-is_over-clause-said
returns-then-is_over-clause-said g c = λ over. c.finish.ensures.said (runs_over c.args.self.now.slots.items c.args.number over)

pub returns-else-is_over-clause-said : goal.returns-else-is_over-clause-said
returns-else-is_over-clause-said g c = λ over. absurd (false≢true (sym c.if-is_over.false ∙ c.is_over.ensures ∙ over))
