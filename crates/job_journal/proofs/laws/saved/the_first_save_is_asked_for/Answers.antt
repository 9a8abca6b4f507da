use Rattle.job_journal.proofs.Saving.{asked_save}
use Rattle.job_journal.proofs.laws.saved.the_first_save_is_asked_for.Goals as goal

pub returns : goal.returns
returns c = asked_save
