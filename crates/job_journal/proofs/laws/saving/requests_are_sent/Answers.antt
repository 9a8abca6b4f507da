use Rattle.job_journal.proofs.Sending.{is_sent}
use Rattle.job_journal.proofs.laws.saving.requests_are_sent.Goals as goal

pub returns : goal.returns
returns c = is_sent
