use Rattle.job_journal.proofs.Readying.{stays_so}
use Rattle.job_journal.proofs.laws.pieces.readiness_stays.Goals as goal

pub returns : goal.returns
returns c = record { asked = stays_so }
