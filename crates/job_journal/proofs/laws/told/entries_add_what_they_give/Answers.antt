use Rattle.job_journal.proofs.Calculus.{entry_adds}
use Rattle.job_journal.proofs.Steps.{agrees_quiet, agrees_came, agrees_ready}
use Rattle.job_journal.proofs.laws.told.entries_add_what_they_give.Goals as goal

pub returns : goal.returns
returns c = record {
  course = entry_adds;
  quiet = agrees_quiet;
  came = agrees_came;
  ready = agrees_ready;
}
