use Rattle.run_journal.proofs.Beginning.{first_started, started_first, start_clock, right_start}
use Rattle.run_journal.proofs.laws.agreement.starts_agree.Goals as goal

pub returns : goal.returns
returns c = record { asked = first_started; first = started_first; clock = start_clock; rightly = right_start }
