use Rattle.job_journal.proofs.Talks.{shell_answers, shell_passes, iopub_heard}
use Rattle.job_journal.proofs.laws.talk.messages_are_noted.Goals as goal

pub returns : goal.returns
returns c = record {
  reply = shell_answers;
  shell = shell_passes;
  iopub = iopub_heard;
}
