use Rattle.cell_core.proofs.Answering.{no_interrupt}
use Rattle.cell_core.proofs.laws.interrupts_are_asked_for.Goals as goal

pub returns : goal.returns
returns c = λ task event past off is. no_interrupt task event past off is
