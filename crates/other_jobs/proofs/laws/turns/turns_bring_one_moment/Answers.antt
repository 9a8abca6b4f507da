use Rattle.other_jobs.proofs.Turning.{turn_brings}
use Rattle.other_jobs.proofs.laws.turns.turns_bring_one_moment.Goals as goal

pub returns : goal.returns
returns c = turn_brings
