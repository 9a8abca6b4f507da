use Rattle.job_journal.proofs.Calculus.{told_whole}
use Rattle.job_journal.proofs.laws.told.the_course_is_told.Goals as goal

pub returns : goal.returns
returns c = told_whole
