use Rattle.job_journal.proofs.Talks.{counts_on, anew_number, asked_number}
use Rattle.job_journal.proofs.laws.talk.messages_are_numbered.Goals as goal

pub returns : goal.returns
returns c = record {
  count = λ j entry past plain. counts_on j plain entry past;
  request = λ j entry past plain same. anew_number j plain entry past same;
  question = λ j past plain e. asked_number j plain past e;
}
