use Rattle.job_journal.proofs.Handing.{hands_out, sends_ping}
use Rattle.job_journal.proofs.laws.standing.connections_are_served.Goals as goal

pub returns : goal.returns
returns c = record {
  handed = hands_out;
  pinged = sends_ping;
}
