use Rattle.job_journal.proofs.Ending.{failed_ends}
use Rattle.job_journal.proofs.laws.saving.saves_fail.Goals as goal

pub returns : goal.returns
returns c = failed_ends
