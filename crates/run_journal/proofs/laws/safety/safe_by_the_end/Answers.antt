use Rattle.run_journal.proofs.Safety.{safe_in_the_end}
use Rattle.run_journal.proofs.laws.safety.safe_by_the_end.Goals as goal

pub returns : goal.returns
returns c j before now end s b = safe_in_the_end s end b
