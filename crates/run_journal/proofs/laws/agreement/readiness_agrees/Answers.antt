use Rattle.run_journal.proofs.Hearing.{agree_ready}
use Rattle.run_journal.proofs.laws.agreement.readiness_agrees.Goals as goal

pub returns : goal.returns
returns c j entry told past acks was now a = agree_ready j entry told past acks a was now
