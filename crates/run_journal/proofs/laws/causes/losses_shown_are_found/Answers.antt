use Rattle.run_journal.proofs.Finding.{found_lost}
use Rattle.run_journal.proofs.laws.causes.losses_shown_are_found.Goals as goal

pub returns : goal.returns
returns c = found_lost
