use Rattle.job_journal.proofs.Breaking.{unread_whole}
use Rattle.job_journal.proofs.Unread.{agrees_unread, unread_bytes, unready, unrequested}
use Rattle.job_journal.proofs.laws.first.nothing_has_come.Goals as goal

pub returns : goal.returns
returns c = record {
  bytes = unread_bytes;
  agrees = agrees_unread;
  unready = unready c.no_octets.ensures.shaken c.no_octets.ensures.messages;
  requests = unrequested c.no_octets.ensures.shaken c.no_octets.ensures.messages;
  whole = unread_whole;
}
