use Rattle.job_journal.proofs.Steps.{agrees_other}
use Rattle.job_journal.proofs.laws.told.other_events_change_no_request.Goals as goal

pub returns : goal.returns
returns c = agrees_other
