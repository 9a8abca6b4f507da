use Rattle.run_journal.proofs.Growth.{ready_stays, asked_stays}
use Rattle.run_journal.proofs.laws.growth.readiness_stays.Goals as goal

pub returns : goal.returns
returns c = record { ready = ready_stays; asked = asked_stays }
