use Rattle.words.proofs.JobsLaws.{all_valid, only_valid}
use Rattle.words.proofs.laws.faulty_where_no_jobs_file.Goals as goal

pub returns-clause-taken : goal.returns-clause-taken
returns-clause-taken c = λ file t is. all_valid file t is

pub returns-clause-only : goal.returns-clause-only
returns-clause-only c = λ file t e. only_valid file t e
