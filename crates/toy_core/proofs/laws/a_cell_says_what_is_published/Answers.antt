use Rattle.toy_core.proofs.Said.{cell_said}
use Rattle.toy_core.proofs.laws.a_cell_says_what_is_published.Goals as goal

pub returns : goal.returns
returns c = cell_said
