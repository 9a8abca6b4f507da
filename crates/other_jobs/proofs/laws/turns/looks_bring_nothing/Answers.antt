use Rattle.other_jobs.proofs.Turning.{look_brings}
use Rattle.other_jobs.proofs.laws.turns.looks_bring_nothing.Goals as goal

pub returns : goal.returns
returns c = look_brings
