use Rattle.job_journal.proofs.Ending.{other_told}
use Rattle.job_journal.proofs.laws.saving.other_events_pass.Goals as goal

pub returns : goal.returns
returns c = other_told
