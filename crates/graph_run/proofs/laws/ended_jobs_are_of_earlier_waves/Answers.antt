use Rattle.graph_run.proofs.LawLemmas.{ended_earlier}
use Rattle.graph_run.proofs.laws.ended_jobs_are_of_earlier_waves.Goals as goal

pub returns : goal.returns
returns c = ended_earlier
