use Rattle.job_journal.proofs.Late.{time_over}
use Rattle.job_journal.proofs.laws.ended.times_are_over.Goals as goal

pub returns : goal.returns
returns c = time_over
