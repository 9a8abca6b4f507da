use Rattle.other_jobs.proofs.Puts.{taken_is_put}
use Rattle.other_jobs.proofs.laws.taken.taken_octets_are_put.Goals as goal

pub returns : goal.returns
returns c = taken_is_put
