use Rattle.run_journal.proofs.Rereading.{begins_unread_by}
use Rattle.run_journal.proofs.laws.rules.none_is_read_again.Goals as goal

pub returns : goal.returns
returns c = begins_unread_by
