use Rattle.run_journal.proofs.Telling.{broken_told}
use Rattle.run_journal.proofs.laws.causes.broken_streams_are_told.Goals as goal

pub returns : goal.returns
returns c = broken_told
