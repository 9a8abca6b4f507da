use Rattle.job_saves.proofs.CourseLemmas.{job_begins, job_ends}
use Rattle.job_saves.proofs.laws.jobs_begin_and_end.Goals as goal

pub returns-clause-begins : goal.returns-clause-begins
returns-clause-begins c b first o j counts keeps for s = job_begins b first o j counts keeps for s

pub returns-clause-ends : goal.returns-clause-ends
returns-clause-ends c o b is_open j counts s = job_ends o b is_open j counts s
