use Rattle.other_jobs.proofs.Calling.{loop_stands}
use Rattle.other_jobs.proofs.laws.calls.calls_leave_the_loop.Goals as goal

pub returns : goal.returns
returns c = loop_stands
