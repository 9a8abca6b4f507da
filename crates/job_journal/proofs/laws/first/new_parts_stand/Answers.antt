use Rattle.job_journal.proofs.Unread.{stands_first}
use Rattle.job_journal.proofs.laws.first.new_parts_stand.Goals as goal

pub returns : goal.returns
returns c = stands_first c.no_octets.ensures.shaken c.no_octets.ensures.messages
