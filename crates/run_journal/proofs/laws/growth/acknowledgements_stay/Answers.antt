use Rattle.run_journal.proofs.Growth.{acked_grows}
use Rattle.run_journal.proofs.laws.growth.acknowledgements_stay.Goals as goal

pub returns : goal.returns
returns c = acked_grows
