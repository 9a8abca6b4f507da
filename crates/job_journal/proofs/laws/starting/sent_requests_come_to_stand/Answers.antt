use Rattle.job_journal.proofs.Starting.{sent_stands, none_stands}
use Rattle.job_journal.proofs.laws.starting.sent_requests_come_to_stand.Goals as goal

pub returns : goal.returns
returns c = record {
  sent = sent_stands;
  calm = none_stands;
}
