use Rattle.job_run.proofs.JobLemmas.{job_saved, job_untold}
use Rattle.job_run.proofs.laws.jobs_stand.Goals as goal

pub returns : goal.returns
returns c = record { untold = job_untold; saved = job_saved }
