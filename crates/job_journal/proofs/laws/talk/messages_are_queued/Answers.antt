use Rattle.job_journal.proofs.Talks.{news_none, news_request, news_question}
use Rattle.job_journal.proofs.laws.talk.messages_are_queued.Goals as goal

pub returns : goal.returns
returns c = record {
  none = λ j entry past plain a r p. news_none j plain entry past a r p;
  request = λ j entry past plain a r p. news_request j plain entry past a r p;
  question = λ j entry past plain a r p. news_question j plain entry past a r p;
}
