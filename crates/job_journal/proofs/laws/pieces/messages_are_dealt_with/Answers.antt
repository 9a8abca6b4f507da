use Rattle.job_journal.proofs.Messages.{io_all, io_ends, io_goes_on, io_other}
use Rattle.job_journal.proofs.laws.pieces.messages_are_dealt_with.Goals as goal

pub returns : goal.returns
returns c = record {
  other = io_other;
  goes_on = io_goes_on;
  ends = io_ends;
  all = io_all;
}
