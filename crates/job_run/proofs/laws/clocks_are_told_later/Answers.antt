use Rattle.job_run.proofs.StartLemmas.{told_later}
use Rattle.job_run.proofs.laws.clocks_are_told_later.Goals as goal

pub returns : goal.returns
returns c = told_later
