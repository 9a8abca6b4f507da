use Rattle.job_journal.proofs.Readying.{ready_sends, ready_waits}
use Rattle.job_journal.proofs.laws.pieces.readiness_starts.Goals as goal

pub returns : goal.returns
returns c = record {
  sends = ready_sends;
  waits = ready_waits;
}
