use Rattle.job_begin.proofs.BeginLemmas.{end_unsaved}
use Rattle.job_begin.proofs.laws.jobs_end_unsaved.Goals as goal

pub returns : goal.returns
returns c o e journal counts unsaved s = end_unsaved o e journal counts unsaved s
