use Rattle.run_journal.proofs.AskedLemmas.{asked_decodes}
use Rattle.run_journal.proofs.laws.asked.asked_jobs_are_read.Goals as goal

pub returns : goal.returns
returns c = asked_decodes c.jupyter_is_read.ensures
