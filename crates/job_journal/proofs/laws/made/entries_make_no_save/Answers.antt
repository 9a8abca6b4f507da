use Rattle.job_journal.proofs.Making.{made_first, made_stays}
use Rattle.job_journal.proofs.laws.made.entries_make_no_save.Goals as goal

pub returns : goal.returns
returns c = record {
  first = made_first;
  quiet = made_stays;
}
