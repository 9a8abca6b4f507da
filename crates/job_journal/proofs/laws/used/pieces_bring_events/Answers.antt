use Rattle.job_journal.proofs.Left.{came_io, came_replies}
use Rattle.job_journal.proofs.laws.used.pieces_bring_events.Goals as goal

pub returns : goal.returns
returns c = record {
  iopub = came_io;
  shell = came_replies;
}
