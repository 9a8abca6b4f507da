use Rattle.job_journal.proofs.Calculus.{told_next}
use Rattle.job_journal.proofs.Steps.{agrees_next}
use Rattle.job_journal.proofs.laws.told.pending_events_are_told.Goals as goal

pub returns : goal.returns
returns c = record {
  course = told_next;
  requests = agrees_next;
}
