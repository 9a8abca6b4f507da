use Rattle.job_journal.proofs.Messages.{reply_ends, reply_goes_on, shell_all, shell_other}
use Rattle.job_journal.proofs.laws.pieces.replies_are_dealt_with.Goals as goal

pub returns : goal.returns
returns c = record {
  other = shell_other;
  goes_on = reply_goes_on;
  ends = reply_ends;
  all = shell_all;
}
