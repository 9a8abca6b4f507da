use Rattle.std.proofs.Common.{ap}
use Rattle.job_run.proofs.OutcomeLemmas.{starved_shut, starved_fails, starved_lost, starved_spent}
use Rattle.job_run.proofs.StopLemmas.{starved_ends}
use Rattle.job_run.proofs.CountLemmas.{starved_after}
use Rattle.job_run.proofs.outcome.memory_answer.Goals as goal

pub returns-clause-shut : goal.returns-clause-shut
returns-clause-shut c = starved_shut c.starved.result (ap (λ a. a.status) c.starved.ensures)

pub returns-clause-fails : goal.returns-clause-fails
returns-clause-fails c h = starved_fails c.starved.result (ap (λ a. a.status) c.starved.ensures) h

pub returns-clause-end : goal.returns-clause-end
returns-clause-end c output task = starved_ends output task c.starved.result c.starved.ensures

pub returns-clause-lost : goal.returns-clause-lost
returns-clause-lost c h = starved_lost c.starved.result (ap (λ a. a.status) c.starved.ensures) h

pub returns-clause-spent : goal.returns-clause-spent
returns-clause-spent c h = starved_spent c.starved.result (ap (λ a. a.status) c.starved.ensures) h

pub returns-clause-counts : goal.returns-clause-counts
returns-clause-counts c n task = starved_after n task c.starved.result c.starved.ensures

pub returns-clause-is : goal.returns-clause-is
returns-clause-is c = c.starved.ensures
