use Rattle.job_journal.proofs.Calculus.{told_first}
use Rattle.job_journal.proofs.Steps.{agrees_first}
use Rattle.job_journal.proofs.laws.told.nothing_is_pending_at_first.Goals as goal

pub returns : goal.returns
returns c = record {
  course = told_first;
  requests = agrees_first;
}
