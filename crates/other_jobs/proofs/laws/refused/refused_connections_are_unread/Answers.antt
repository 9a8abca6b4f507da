use Rattle.other_jobs.proofs.Refusals.{begins_unread, calls_unread, closes_unread, job_offers_unread, offers_unread, reads_unread, shut_unread}
use Rattle.other_jobs.proofs.Turning.{looks_unread, turns_unread}
use Rattle.other_jobs.proofs.laws.refused.refused_connections_are_unread.Goals as goal
use Rattle.std.proofs.Common.{false}

pub returns : goal.returns
returns c = record {
  at_first = shut_unread;
  calls = calls_unread;
  begins = λ job ports chans result before now b was. begins_unread job ports chans result before now b was;
  closes = closes_unread;
  offers = offers_unread false;
  job = job_offers_unread;
  reads = reads_unread;
  turns = turns_unread;
  looks = looks_unread;
}
