use Rattle.job_journal.proofs.Left.{no_news, io_passes, io_adds, reply_passes, reply_adds}
use Rattle.job_journal.proofs.laws.used.messages_are_added.Goals as goal

pub returns : goal.returns
returns c = record {
  none = no_news;
  io_other = io_passes;
  io_own = io_adds;
  reply_other = reply_passes;
  reply_own = reply_adds;
}
