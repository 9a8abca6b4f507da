use Rattle.job_journal.proofs.Making.{made_next, made_unsynced}
use Rattle.job_journal.proofs.laws.made.the_next_save_is_made.Goals as goal

pub returns : goal.returns
returns c = record {
  done = made_next;
  unsynced = made_unsynced;
}
