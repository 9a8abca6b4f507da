use Rattle.job_journal.proofs.Firsts.{first_acked, first_made}
use Rattle.job_journal.proofs.laws.first.first_saves_are_made.Goals as goal

pub returns : goal.returns
returns c = record {
  made = first_made;
  acked = first_acked;
}
