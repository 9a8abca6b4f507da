use Rattle.job_run.proofs.JobLemmas.{job_quiet, job_quiet_untold}
use Rattle.job_run.proofs.laws.jobs_stay_where_it_is_quiet.Goals as goal

pub returns : goal.returns
returns c = record { stands = job_quiet; untold = job_quiet_untold }
