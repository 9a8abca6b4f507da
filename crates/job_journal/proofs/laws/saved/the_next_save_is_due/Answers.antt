use Rattle.job_journal.proofs.Saving.{next_save}
use Rattle.job_journal.proofs.laws.saved.the_next_save_is_due.Goals as goal

pub returns : goal.returns
returns c = next_save
