use Rattle.job_journal.proofs.Left.{io_left_other, io_left_own, io_left_over, replies_left_other, replies_left_own, replies_left_over}
use Rattle.job_journal.proofs.laws.used.messages_give_events.Goals as goal

pub returns : goal.returns
returns c = record {
  io_other = io_left_other;
  io_own = io_left_own;
  io_over = io_left_over;
  reply_other = replies_left_other;
  reply_own = replies_left_own;
  reply_over = replies_left_over;
}
