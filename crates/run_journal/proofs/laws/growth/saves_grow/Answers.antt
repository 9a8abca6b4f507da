use Rattle.run_journal.proofs.Growth.{saves_grow}
use Rattle.run_journal.proofs.laws.growth.saves_grow.Goals as goal

pub returns : goal.returns
returns c = saves_grow
