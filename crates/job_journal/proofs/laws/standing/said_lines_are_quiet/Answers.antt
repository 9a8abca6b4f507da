use Rattle.job_journal.proofs.Quiet.{refusal_quiet, speech_quiet}
use Rattle.job_journal.proofs.laws.standing.said_lines_are_quiet.Goals as goal

pub returns : goal.returns
returns c = record {
  said = speech_quiet;
  failed = refusal_quiet;
}
