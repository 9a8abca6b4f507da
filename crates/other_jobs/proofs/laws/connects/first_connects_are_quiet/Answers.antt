use Rattle.other_jobs.proofs.Connecting.{begins_quiet}
use Rattle.other_jobs.proofs.laws.connects.first_connects_are_quiet.Goals as goal

pub returns : goal.returns
returns c = λ j job ports chans result before after b unread. begins_quiet j job ports b unread
