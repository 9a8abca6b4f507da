use Rattle.job_begin.proofs.beginning.found_or_end.Goals as goal

pub returns-in-Ok-clause-found : goal.returns-in-Ok-clause-found
returns-in-Ok-clause-found c = c.in-Ok.is
