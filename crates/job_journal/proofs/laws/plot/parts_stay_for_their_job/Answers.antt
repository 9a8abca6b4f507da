use Rattle.job_journal.proofs.Plots.{for_still}
use Rattle.job_journal.proofs.laws.plot.parts_stay_for_their_job.Goals as goal

pub returns : goal.returns
returns c = for_still
