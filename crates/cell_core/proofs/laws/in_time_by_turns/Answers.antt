use Rattle.cell_core.proofs.LookTurns.{takes_turns}
use Rattle.cell_core.proofs.laws.in_time_by_turns.Goals as goal

pub returns : goal.returns
returns c = λ task events turns later. takes_turns task events turns later
