use Rattle.run_journal.proofs.Finding.{lost_found}
use Rattle.run_journal.proofs.laws.causes.losses_found_are_shown.Goals as goal

pub returns : goal.returns
returns c = lost_found
