use Rattle.job_journal.proofs.Knows.{takes_io, takes_reply}
use Rattle.job_journal.proofs.laws.used.the_core_takes.Goals as goal

pub returns : goal.returns
returns c = record {
  io = takes_io;
  reply = takes_reply;
}
