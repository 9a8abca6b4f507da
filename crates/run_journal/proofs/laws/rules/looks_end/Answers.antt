use Rattle.run_journal.proofs.Finishing.{looks_end}
use Rattle.run_journal.proofs.laws.rules.looks_end.Goals as goal

pub returns : goal.returns
returns c = looks_end
