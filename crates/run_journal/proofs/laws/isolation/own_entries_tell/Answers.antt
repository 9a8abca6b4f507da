use Rattle.run_journal.proofs.Isolation.{own_requests, own_saves, own_acked, own_why}
use Rattle.run_journal.proofs.Status.{own_end, own_status}
use Rattle.run_journal.proofs.laws.isolation.own_entries_tell.Goals as goal

pub returns : goal.returns
returns c = record {
  requests = own_requests;
  saves = own_saves;
  acked = own_acked;
  why = own_why;
  end = own_end;
  status = own_status;
}
