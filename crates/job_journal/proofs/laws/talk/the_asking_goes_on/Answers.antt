use Rattle.job_journal.proofs.Talks.{asks_on, asks_at}
use Rattle.job_journal.proofs.laws.talk.the_asking_goes_on.Goals as goal

pub returns : goal.returns
returns c = record {
  arrivals = asks_on;
  clock = asks_at;
}
