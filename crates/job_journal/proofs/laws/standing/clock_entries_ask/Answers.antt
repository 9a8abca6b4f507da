use Rattle.job_journal.proofs.Clocked.{clock_asks, clock_passes, question_sent}
use Rattle.job_journal.proofs.laws.standing.clock_entries_ask.Goals as goal

pub returns : goal.returns
returns c = record {
  passes = clock_passes;
  asks = clock_asks;
  sent = question_sent;
}
