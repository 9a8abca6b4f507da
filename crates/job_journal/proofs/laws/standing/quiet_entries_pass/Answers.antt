use Rattle.job_journal.proofs.Quiet.{stands_on, sends_on, ended_on, broken_on}
use Rattle.job_journal.proofs.laws.standing.quiet_entries_pass.Goals as goal

pub returns : goal.returns
returns c = record {
  stands = stands_on;
  to_send = sends_on;
  ended = ended_on;
  whole = broken_on;
}
