use Rattle.job_journal.proofs.Acking.{unnamed_going}
use Rattle.job_journal.proofs.Again.{unnamed_again}
use Rattle.job_journal.proofs.laws.saving.saves_name_no_cell.Goals as goal

pub returns : goal.returns
returns c = record {
  ongoing = unnamed_going;
  again = unnamed_again;
}
