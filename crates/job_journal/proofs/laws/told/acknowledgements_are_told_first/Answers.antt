use Rattle.job_journal.proofs.Calculus.{saved_adds}
use Rattle.job_journal.proofs.Steps.{agrees_saved}
use Rattle.job_journal.proofs.laws.told.acknowledgements_are_told_first.Goals as goal

pub returns : goal.returns
returns c = record {
  course = saved_adds;
  requests = agrees_saved;
}
