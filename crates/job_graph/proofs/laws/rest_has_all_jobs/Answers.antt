use Rattle.job_graph.proofs.RestLemmas.{rest_jobs, rest_keyed}
use Rattle.job_graph.proofs.laws.rest_has_all_jobs.Goals as goal

pub returns : goal.returns
returns c = record { keyed = rest_keyed; jobs = rest_jobs }
