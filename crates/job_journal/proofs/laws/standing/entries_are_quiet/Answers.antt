use Rattle.job_journal.proofs.Quiet.{quiet_kind, quiet_sync, quiet_connect}
use Rattle.job_journal.proofs.laws.standing.entries_are_quiet.Goals as goal

pub returns : goal.returns
returns c = record {
  kinds = quiet_kind;
  syncs = quiet_sync;
  connects = quiet_connect;
}
