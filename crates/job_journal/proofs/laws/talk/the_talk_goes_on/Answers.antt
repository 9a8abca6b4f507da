use Rattle.job_journal.proofs.Talks.{talk_on, talk_makes, talk_pings}
use Rattle.job_journal.proofs.laws.talk.the_talk_goes_on.Goals as goal

pub returns : goal.returns
returns c = record {
  entry = talk_on;
  made = talk_makes;
  ping = talk_pings;
}
