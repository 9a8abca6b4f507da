use Rattle.ready_loop.proofs.LookLemmas.{others_looked}
use Rattle.ready_loop.proofs.laws.looks_leave_other_jobs.Goals as goal

pub returns : goal.returns
returns c = λ jobs h before after since conn none. others_looked jobs h since conn none
