use Rattle.job_run.proofs.OutcomeLemmas.{shut_by, fails_by, lost_by, spent_by}
use Rattle.job_run.proofs.StopLemmas.{own_end}
use Rattle.job_run.proofs.CountLemmas.{answer_after}
use Rattle.job_run.proofs.outcome.answer_for.Goals as goal

pub returns-clause-shut : goal.returns-clause-shut
returns-clause-shut c shut = shut_by c.args.output.now c.args.end.now c.answer.result c.answer.ensures shut

pub returns-clause-fails : goal.returns-clause-fails
returns-clause-fails c task own fails = fails_by c.args.output.now c.args.end.now c.answer.result c.answer.ensures (own_end task c.args.end.now own) fails

pub returns-clause-end : goal.returns-clause-end
returns-clause-end c task own = ∣ record { end = c.args.end.now; by = own; answers = c.answer.ensures } ∣₁

pub returns-clause-lost : goal.returns-clause-lost
returns-clause-lost c lost = lost_by c.args.output.now c.args.end.now c.answer.result c.answer.ensures lost

pub returns-clause-spent : goal.returns-clause-spent
returns-clause-spent c spent = spent_by c.args.output.now c.args.end.now c.answer.result c.answer.ensures spent

pub returns-clause-counts : goal.returns-clause-counts
returns-clause-counts c n task ends = answer_after n task c.args.output.now c.args.end.now c.answer.result c.answer.ensures ends

pub returns-clause-answers : goal.returns-clause-answers
returns-clause-answers c = c.answer.ensures
