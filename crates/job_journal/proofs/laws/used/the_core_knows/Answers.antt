use Rattle.job_journal.proofs.Knows.{knows_first, knows_io, knows_reply}
use Rattle.job_journal.proofs.laws.used.the_core_knows.Goals as goal

pub returns : goal.returns
returns c = record {
  first = knows_first;
  io = knows_io;
  reply = knows_reply;
}
