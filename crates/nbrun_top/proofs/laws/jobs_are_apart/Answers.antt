use Rattle.nbrun_top.proofs.JobsApart.{file_apart, file_file}
use Rattle.nbrun_top.proofs.laws.jobs_are_apart.Goals as goal

pub returns-clause-jobs : goal.returns-clause-jobs
returns-clause-jobs c file common bytes asks is = file_apart file common bytes asks is

pub returns-clause-file : goal.returns-clause-file
returns-clause-file c file common bytes asks is = file_file file common bytes asks is
