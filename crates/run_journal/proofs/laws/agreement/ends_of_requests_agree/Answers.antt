use Rattle.run_journal.proofs.Asking.{done_same, error_same}
use Rattle.run_journal.proofs.laws.agreement.ends_of_requests_agree.Goals as goal

pub returns : goal.returns
returns c = record { done = done_same; error = error_same }
