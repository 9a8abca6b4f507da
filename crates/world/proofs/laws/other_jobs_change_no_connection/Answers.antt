use Rattle.world.proofs.StatusLemmas.{status_of_others}
use Rattle.world.proofs.laws.other_jobs_change_no_connection.Goals as goal

pub returns : goal.returns
returns c = λ job conn before after apart since. status_of_others conn apart since
