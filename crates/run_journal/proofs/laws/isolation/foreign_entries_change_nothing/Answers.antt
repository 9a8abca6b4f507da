use Rattle.run_journal.proofs.Isolation.{requests_foreign, saves_foreign, acked_foreign, why_foreign}
use Rattle.run_journal.proofs.Status.{end_foreign}
use Rattle.run_journal.proofs.laws.isolation.foreign_entries_change_nothing.Goals as goal

pub returns : goal.returns
returns c = record {
  requests = requests_foreign;
  saves = saves_foreign;
  acked = acked_foreign;
  why = why_foreign;
  end = end_foreign;
}
