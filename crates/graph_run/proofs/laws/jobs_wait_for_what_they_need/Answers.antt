use Rattle.graph_run.proofs.LawLemmas.{ran_passed}
use Rattle.graph_run.proofs.laws.jobs_wait_for_what_they_need.Goals as goal

pub returns : goal.returns
returns c = ran_passed
